use Rattle.std.proofs.Common.{◌≡◌, length}
use Rattle.std.specs.List.{list_all}
use Rattle.path_patterns.specs.RangeCounts.{few_in_piece}
use Rattle.path_patterns.proofs.range_counts.few_in_pieces.Given as goal

abbrev pub invariant-loop-rest : goal.invariant-loop-rest
invariant-loop-rest l = list_all few_in_piece l.rest ≡ list_all few_in_piece l.pieces

abbrev pub decreases-loop-rest : goal.decreases-loop-rest
decreases-loop-rest l = length l.rest
