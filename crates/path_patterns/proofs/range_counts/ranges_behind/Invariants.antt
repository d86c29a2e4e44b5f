use Rattle.std.proofs.Common.{◌≡◌, ◌≤◌, ◌^◌, ◌-◌, length}
use Rattle.path_patterns.specs.RangeCounts.{ranges_behind, capped}
use Rattle.path_patterns.proofs.range_counts.ranges_behind.Given as goal

abbrev pub invariant-loop-rest : goal.invariant-loop-rest
invariant-loop-rest l =
    record { same : capped (ranges_behind l.count.numbers l.count.ranges l.rest) ≡ capped (ranges_behind l.fn.first.numbers l.fn.first.ranges l.sets); within : l.count.ranges ≤ 2 ^ 64 - 1 }

abbrev pub decreases-loop-rest : goal.decreases-loop-rest
decreases-loop-rest l = length l.rest
