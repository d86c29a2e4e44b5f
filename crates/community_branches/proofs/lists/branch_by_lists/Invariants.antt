use Rattle.std.proofs.Common.{length}
use Rattle.community_branches.specs.Branches.{IsBranch, lists_behind}
use Rattle.community_branches.specs.Done.{Done}
use Rattle.community_branches.proofs.lists.branch_by_lists.Given as goal

abbrev pub invariant-loop-rest : goal.invariant-loop-rest
invariant-loop-rest l = Done (λ lists. IsBranch l.initial.core l.core (lists_behind l.change lists) l.yes l.fn.no l.node) l.lists l.rest

abbrev pub decreases-loop-rest : goal.decreases-loop-rest
decreases-loop-rest l = length l.rest
