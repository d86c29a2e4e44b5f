use Rattle.std.proofs.Common.{◌≡◌, ◌++◌, length}
use Rattle.path_patterns.specs.DigitRanges.{chosen}
use Rattle.path_patterns.proofs.digit_ranges.chosen.Given as goal

abbrev pub invariant-loop-rest : goal.invariant-loop-rest
invariant-loop-rest l = l.found.items ++ chosen l.set l.rest ≡ chosen l.set l.digits

abbrev pub decreases-loop-rest : goal.decreases-loop-rest
decreases-loop-rest l = length l.rest
