use Rattle.std.proofs.Common.{◌≡◌, ◌++◌, length}
use Rattle.path_patterns.specs.Rows.{exactly}
use Rattle.path_patterns.proofs.row_steps.exactly.Given as goal

abbrev pub invariant-loop-rest : goal.invariant-loop-rest
invariant-loop-rest l = l.found ++ exactly l.least l.wait l.need l.rest l.starts ≡ exactly l.least l.least l.least l.fits l.row

abbrev pub decreases-loop-rest : goal.decreases-loop-rest
decreases-loop-rest l = length l.rest
