use Rattle.std.proofs.Common.{◌≡◌, ◌++◌, length}
use Rattle.path_patterns.specs.PathItems.{words_hold}
use Rattle.path_patterns.specs.Rows.{fits_along}
use Rattle.path_patterns.proofs.piece_rows.words_along.Given as goal

abbrev pub invariant-loop-rest : goal.invariant-loop-rest
invariant-loop-rest l = l.row ++ fits_along (words_hold l.words) l.rest ≡ fits_along (words_hold l.words) l.path

abbrev pub decreases-loop-rest : goal.decreases-loop-rest
decreases-loop-rest l = length l.rest
