use Rattle.std.proofs.Common.{length}
use Rattle.community_branches.specs.Branches.{IsBranch, entries_behind}
use Rattle.community_branches.specs.Done.{Done}
use Rattle.community_branches.proofs.lists.branch_by_entries.Given as goal

abbrev pub invariant-loop-rest : goal.invariant-loop-rest
invariant-loop-rest l = Done (λ entries. IsBranch l.initial.core l.core (entries_behind l.change entries) l.yes l.no l.node) l.entries l.rest

abbrev pub decreases-loop-rest : goal.decreases-loop-rest
decreases-loop-rest l = length l.rest
