use Rattle.std.proofs.Common.{◌≡◌, ◌++◌, false, filter, length}
use Rattle.std.specs.List.{list_any}
use Rattle.path_patterns.specs.MergedRanges.{has_number, is_wide}
use Rattle.path_patterns.proofs.merged.with_numbers.Given as goal

abbrev pub invariant-loop-rest : goal.invariant-loop-rest
invariant-loop-rest l =
    record { kept : l.kept.items ++ filter has_number l.rest ≡ filter has_number l.fn.ranges; bounded : list_any is_wide l.kept.items ≡ false }

abbrev pub decreases-loop-rest : goal.decreases-loop-rest
decreases-loop-rest l = length l.rest
