use Rattle.std.proofs.Common.{◌≡◌, length}
use Rattle.path_patterns.specs.PathItems.{digits_fit}
use Rattle.path_patterns.proofs.piece_rows.digits_fit.Given as goal

abbrev pub invariant-loop-wanted : goal.invariant-loop-wanted
invariant-loop-wanted l = digits_fit l.wanted l.rest ≡ digits_fit l.sets l.digits

abbrev pub decreases-loop-wanted : goal.decreases-loop-wanted
decreases-loop-wanted l = length l.wanted
