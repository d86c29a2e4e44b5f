use Rattle.std.proofs.Common.{◌≡◌, ◌++◌, length}
use Rattle.std.specs.Prelude.{filter}
use Rattle.ios_meaning.specs.Deletions.{is_other}
use Rattle.ios_meaning.proofs.deletion_index.others_of.Given as goal

abbrev pub decreases-loop-rest : goal.decreases-loop-rest
decreases-loop-rest l = length l.rest

abbrev pub invariant-loop-rest : goal.invariant-loop-rest
invariant-loop-rest l = l.found.items ++ filter (λ p. is_other p.reach) l.rest ≡ filter (λ p. is_other p.reach) l.entries
