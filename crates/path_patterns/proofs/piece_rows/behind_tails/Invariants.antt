use Rattle.std.proofs.Common.{◌≡◌, length}
use Rattle.std.specs.Prelude.{map}
use Rattle.path_patterns.specs.PathItems.{tail_takes}
use Rattle.path_patterns.specs.Rows.{rows_behind}
use Rattle.path_patterns.proofs.piece_rows.behind_tails.Given as goal

abbrev pub invariant-loop-rest : goal.invariant-loop-rest
invariant-loop-rest l = rows_behind (map tail_takes l.rest) l.path l.row ≡ rows_behind (map tail_takes l.tails) l.path l.initial.row

abbrev pub decreases-loop-rest : goal.decreases-loop-rest
decreases-loop-rest l = length l.rest
