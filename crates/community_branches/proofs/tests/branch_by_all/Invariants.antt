use Rattle.std.proofs.Common.{length}
use Rattle.community_branches.specs.Branches.{IsBranch, all_fitted_behind}
use Rattle.community_branches.specs.Done.{Done}
use Rattle.community_branches.proofs.tests.branch_by_all.Given as goal

abbrev pub invariant-loop-rest : goal.invariant-loop-rest
invariant-loop-rest l = Done (λ rects. IsBranch l.initial.core l.core (all_fitted_behind l.change rects) l.fn.yes l.no l.node) l.rects l.rest

abbrev pub decreases-loop-rest : goal.decreases-loop-rest
decreases-loop-rest l = length l.rest
