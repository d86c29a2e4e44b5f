use Rattle.std.proofs.Common.{◌≡◌, ◌++◌, length}
use Rattle.path_patterns.specs.DigitRanges.{one_spread}
use Rattle.path_patterns.proofs.digit_ranges.push_one.Given as goal

abbrev pub invariant-loop-rest : goal.invariant-loop-rest
invariant-loop-rest l = l.out.items ++ one_spread l.number l.rest ≡ l.initial.out.items ++ one_spread l.number l.runs

abbrev pub decreases-loop-rest : goal.decreases-loop-rest
decreases-loop-rest l = length l.rest
