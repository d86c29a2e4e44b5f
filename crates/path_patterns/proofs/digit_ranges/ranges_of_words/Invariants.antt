use Rattle.std.proofs.Common.{◌≡◌, ◌++◌, length}
use Rattle.path_patterns.specs.DigitRanges.{ranges_of_words}
use Rattle.path_patterns.proofs.digit_ranges.ranges_of_words.Given as goal

abbrev pub invariant-loop-rest : goal.invariant-loop-rest
invariant-loop-rest l = l.found.items ++ ranges_of_words l.rest ≡ ranges_of_words l.words

abbrev pub decreases-loop-rest : goal.decreases-loop-rest
decreases-loop-rest l = length l.rest
