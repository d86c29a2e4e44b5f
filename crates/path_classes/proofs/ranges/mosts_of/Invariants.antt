use Rattle.std.proofs.Common.{◌≡◌, ◌++◌, length}
use Rattle.path_classes.specs.Numbers.{mosts_of}
use Rattle.path_classes.proofs.ranges.mosts_of.Given as goal

abbrev pub invariant-loop-rest : goal.invariant-loop-rest
invariant-loop-rest l = l.found.items ++ mosts_of l.rest ≡ mosts_of l.ranges

abbrev pub decreases-loop-rest : goal.decreases-loop-rest
decreases-loop-rest l = length l.rest
