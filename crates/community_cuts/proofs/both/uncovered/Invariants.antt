use Rattle.std.proofs.Common.{length}
use Rattle.community_cuts.proofs.JoinedLaws.{Uncovered}
use Rattle.community_cuts.proofs.both.uncovered.Given as goal

abbrev pub decreases-loop-rest : goal.decreases-loop-rest
decreases-loop-rest l = length l.rest

abbrev pub invariant-loop-rest : goal.invariant-loop-rest
invariant-loop-rest l = Uncovered l.rects l.second.removed l.kept.items l.rest
