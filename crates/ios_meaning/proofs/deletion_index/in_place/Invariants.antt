use Rattle.std.proofs.Common.{◌≡◌, ◌++◌, length}
use Rattle.std.specs.Prelude.{map}
use Rattle.ios_meaning.specs.Deletions.{in_place}
use Rattle.ios_meaning.proofs.deletion_index.in_place.Given as goal

abbrev pub decreases-loop-rest : goal.decreases-loop-rest
decreases-loop-rest l = length l.rest

abbrev pub invariant-loop-rest : goal.invariant-loop-rest
invariant-loop-rest l = l.found.items ++ in_place (map (λ e. e.now) l.rest) ≡ in_place (map (λ e. e.now) l.entries)
