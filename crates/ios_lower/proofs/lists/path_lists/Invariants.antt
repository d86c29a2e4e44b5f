use Rattle.std.proofs.Common.{length}
use Rattle.ios_lower.proofs.PathLists.{PathsFound}
use Rattle.ios_lower.proofs.lists.path_lists.Given as goal

abbrev pub invariant-loop-rest : goal.invariant-loop-rest
invariant-loop-rest l = PathsFound l.items l.rest l.lists

abbrev pub decreases-loop-rest : goal.decreases-loop-rest
decreases-loop-rest l = length l.rest
