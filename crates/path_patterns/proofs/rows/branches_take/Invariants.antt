use Rattle.std.proofs.Common.{◌≡◌, length}
use Rattle.std.specs.List.{list_any}
use Rattle.path_patterns.specs.PathItems.{branch_takes}
use Rattle.path_patterns.specs.Rows.{takes_all}
use Rattle.path_patterns.proofs.rows.branches_take.Given as goal

abbrev pub invariant-loop-rest : goal.invariant-loop-rest
invariant-loop-rest l = list_any (λ b. takes_all (branch_takes b) l.path) l.rest ≡ list_any (λ b. takes_all (branch_takes b) l.path) l.branches

abbrev pub decreases-loop-rest : goal.decreases-loop-rest
decreases-loop-rest l = length l.rest
