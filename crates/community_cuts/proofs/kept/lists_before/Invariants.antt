use Rattle.std.proofs.Common.{length}
use Rattle.community_cuts.specs.Kept.{ListsSoFar}
use Rattle.community_cuts.proofs.kept.lists_before.Given as goal

abbrev pub invariant-loop-rest : goal.invariant-loop-rest
invariant-loop-rest l = ListsSoFar l.lists l.kept l.rest l.change

abbrev pub decreases-loop-rest : goal.decreases-loop-rest
decreases-loop-rest l = length l.rest
