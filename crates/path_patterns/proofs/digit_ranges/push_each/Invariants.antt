use Rattle.std.proofs.Common.{◌≡◌, ◌+◌, ◌-◌, ◌≤◌, ◌^◌, ◌++◌, min}
use Rattle.path_patterns.specs.DigitRanges.{each_spread, greatest_front}
use Rattle.path_patterns.proofs.digit_ranges.push_each.Given as goal

abbrev pub invariant-loop-number : goal.invariant-loop-number
invariant-loop-number l = (l.out.items ++ each_spread (l.end - l.number) l.number l.runs ≡ l.initial.out.items ++ each_spread (l.end - l.range.least) l.range.least l.runs) × (l.number ≤ 2 ^ 32) × (l.end ≡ min l.range.most greatest_front + 1)

abbrev pub decreases-loop-number : goal.decreases-loop-number
decreases-loop-number l = l.end - l.number
