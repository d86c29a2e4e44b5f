use Rattle.std.proofs.Common.{◌≡◌, ◌+◌, ◌≤◌, ◌^◌, ◌-◌, length}
use Rattle.path_patterns.specs.RangeCounts.{words_count, capped}
use Rattle.path_patterns.proofs.range_counts.words_count.Given as goal

abbrev pub invariant-loop-rest : goal.invariant-loop-rest
invariant-loop-rest l = record { same : capped (l.count + words_count l.rest) ≡ capped (words_count l.words); within : l.count ≤ 2 ^ 64 - 1 }

abbrev pub decreases-loop-rest : goal.decreases-loop-rest
decreases-loop-rest l = length l.rest
