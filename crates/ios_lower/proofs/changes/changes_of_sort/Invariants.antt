use Rattle.std.proofs.Common.{length}
use Rattle.std.specs.Prelude.{map}
use Rattle.ios_lower.specs.ChangeSteps.{AreBefore}
use Rattle.ios_lower.proofs.changes.changes_of_sort.Given as goal

abbrev pub invariant-loop-rest : goal.invariant-loop-rest
invariant-loop-rest l = AreBefore l.lists.items.now l.deleting (map (λ m. m.now) l.lines) (map (λ m. m.now) l.rest) l.found.items

abbrev pub decreases-loop-rest : goal.decreases-loop-rest
decreases-loop-rest l = length l.rest
