use Rattle.std.proofs.Common.{◌≡◌, ◌+◌, ◌-◌, ◌≤◌, ◌&&◌, nat_le, nat_lt}
use Rattle.path_patterns.specs.RangeWords.{IsGrown}
use Rattle.path_patterns.proofs.range_words.push_blocks.Given as goal

abbrev pub invariant-loop-next : goal.invariant-loop-next
invariant-loop-next l =
    IsGrown l.initial.out.items l.out.items (λ n. nat_le l.range.least n && nat_lt n l.next) × (l.range.least ≤ l.next) × (l.next ≤ l.end) × (l.end ≡ l.range.most + 1)

abbrev pub decreases-loop-next : goal.decreases-loop-next
decreases-loop-next l = l.end - l.next
