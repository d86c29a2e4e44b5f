use Rattle.std.proofs.Common.{◌≡◌, length}
use Rattle.std.specs.List.{list_any}
use Rattle.ios_reader.specs.Entries.{lines_below}
use Rattle.ios_reader.specs.Lines.{has_effect}
use Rattle.ios_reader.proofs.settings.any_below.Given as goal

abbrev pub invariant-loop-rest : goal.invariant-loop-rest
invariant-loop-rest l = list_any (has_effect l.effect) (lines_below l.rest) ≡ list_any (has_effect l.effect) (lines_below l.items)

abbrev pub decreases-loop-rest : goal.decreases-loop-rest
decreases-loop-rest l = length l.rest
