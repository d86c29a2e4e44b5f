use Rattle.std.proofs.Common.{◌≡◌, ◌++◌, length}
use Rattle.path_patterns.specs.Rows.{spread}
use Rattle.path_patterns.specs.declared.row_steps.Room.TheVariants.{Unreached}
use Rattle.path_patterns.proofs.row_steps.spread.Given as goal

abbrev pub invariant-loop-rest : goal.invariant-loop-rest
invariant-loop-rest l = l.found ++ spread l.room l.left l.rest l.starts ≡ spread l.room Unreached l.fits l.row

abbrev pub decreases-loop-rest : goal.decreases-loop-rest
decreases-loop-rest l = length l.rest
