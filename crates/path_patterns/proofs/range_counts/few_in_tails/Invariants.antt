use Rattle.std.proofs.Common.{◌≡◌, length}
use Rattle.path_patterns.specs.RangeCounts.{few_in_tails}
use Rattle.path_patterns.proofs.range_counts.few_in_tails.Given as goal

abbrev pub invariant-loop-rest : goal.invariant-loop-rest
invariant-loop-rest l = few_in_tails l.rest ≡ few_in_tails l.tails

abbrev pub decreases-loop-rest : goal.decreases-loop-rest
decreases-loop-rest l = length l.rest
