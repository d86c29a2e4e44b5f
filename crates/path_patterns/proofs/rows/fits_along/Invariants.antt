use Rattle.std.proofs.Common.{◌≡◌, ◌++◌, length}
use Rattle.path_patterns.specs.Items.{in_set}
use Rattle.path_patterns.specs.Rows.{fits_along}
use Rattle.path_patterns.proofs.rows.fits_along.Given as goal

abbrev pub invariant-loop-rest : goal.invariant-loop-rest
invariant-loop-rest l = l.row ++ fits_along (in_set l.set) l.rest ≡ fits_along (in_set l.set) l.path

abbrev pub decreases-loop-rest : goal.decreases-loop-rest
decreases-loop-rest l = length l.rest
