use Rattle.std.proofs.Common.{◌≡◌, length}
use Rattle.std.specs.Prelude.{map}
use Rattle.route_types.specs.Address.{full_prefix}
use Rattle.rpl_meaning.specs.Blocks.{word_in}
use Rattle.rpl_meaning.specs.Conditions.{some_holds}
use Rattle.rpl_meaning.proofs.tests.some_holds_address.Given as goal

abbrev pub decreases-loop-rest : goal.decreases-loop-rest
decreases-loop-rest l = length l.rest

abbrev pub invariant-loop-rest : goal.invariant-loop-rest
invariant-loop-rest l = some_holds (word_in l.words.entries) (map (λ e. e.now) l.rest) (full_prefix l.address) ≡ some_holds (word_in l.words.entries) (map (λ e. e.now) l.elements) (full_prefix l.address)
