use Rattle.std.proofs.Common.{◌≡◌, length}
use Rattle.std.specs.List.{list_any}
use Rattle.ios_reader.specs.Entries.{lines_below}
use Rattle.ios_reader.specs.Lines.{continues}
use Rattle.ios_lower.proofs.continues.some_continue.Given as goal

abbrev pub invariant-loop-rest : goal.invariant-loop-rest
invariant-loop-rest l = list_any continues (lines_below l.rest) ≡ list_any continues (lines_below l.below)

abbrev pub decreases-loop-rest : goal.decreases-loop-rest
decreases-loop-rest l = length l.rest
