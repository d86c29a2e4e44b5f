use Rattle.std.proofs.Common.{◌≡◌, ◌++◌, length}
use Rattle.path_patterns.specs.DigitRanges.{all_spread}
use Rattle.path_patterns.proofs.digit_ranges.push_all.Given as goal

abbrev pub invariant-loop-rest : goal.invariant-loop-rest
invariant-loop-rest l = l.out.items ++ all_spread l.set l.runs l.rest ≡ l.initial.out.items ++ all_spread l.set l.runs l.ranges

abbrev pub decreases-loop-rest : goal.decreases-loop-rest
decreases-loop-rest l = length l.rest
