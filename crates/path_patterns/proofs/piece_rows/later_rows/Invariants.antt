use Rattle.std.proofs.Common.{◌≡◌, length}
use Rattle.path_patterns.specs.Rows.{later_rows}
use Rattle.path_patterns.proofs.piece_rows.later_rows.Given as goal

abbrev pub invariant-loop-rest : goal.invariant-loop-rest
invariant-loop-rest l = later_rows l.rest l.path l.row ≡ later_rows l.pieces l.path l.initial.row

abbrev pub decreases-loop-rest : goal.decreases-loop-rest
decreases-loop-rest l = length l.rest
