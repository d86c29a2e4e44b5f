use Rattle.std.proofs.Common.{◌≡◌, ◌++◌, true, length}
use Rattle.path_patterns.specs.Rows.{fits_along}
use Rattle.path_patterns.proofs.piece_rows.all_along.Given as goal

abbrev pub invariant-loop-rest : goal.invariant-loop-rest
invariant-loop-rest l = l.row ++ fits_along (λ _. true) l.rest ≡ fits_along (λ _. true) l.path

abbrev pub decreases-loop-rest : goal.decreases-loop-rest
decreases-loop-rest l = length l.rest
