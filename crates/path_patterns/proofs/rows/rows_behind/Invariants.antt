use Rattle.std.proofs.Common.{◌≡◌, length}
use Rattle.std.specs.Prelude.{map}
use Rattle.path_patterns.specs.Items.{takes_of}
use Rattle.path_patterns.specs.Rows.{start_row, rows_behind}
use Rattle.path_patterns.proofs.rows.rows_behind.Given as goal

abbrev pub invariant-loop-rest : goal.invariant-loop-rest
invariant-loop-rest l = rows_behind (map takes_of l.rest) l.path l.row ≡ rows_behind (map takes_of l.items) l.path (start_row l.path)

abbrev pub decreases-loop-rest : goal.decreases-loop-rest
decreases-loop-rest l = length l.rest
