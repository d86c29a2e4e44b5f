use Rattle.std.proofs.Common.{◌≡◌, length}
use Rattle.path_patterns.specs.DigitRanges.{spread}
use Rattle.path_patterns.proofs.digit_ranges.spread.Given as goal

abbrev pub invariant-loop-rest : goal.invariant-loop-rest
invariant-loop-rest l = spread l.ranges l.rest ≡ spread l.fn.first l.sets

abbrev pub decreases-loop-rest : goal.decreases-loop-rest
decreases-loop-rest l = length l.rest
