use Rattle.std.proofs.Common.{◌≡◌, ◌++◌, length}
use Rattle.std.specs.Prelude.{map}
use Rattle.ios_reader.specs.Entries.{lines_below}
use Rattle.ios_meaning.proofs.entries.lines_below.Given as goal

abbrev pub decreases-loop-rest : goal.decreases-loop-rest
decreases-loop-rest l = length l.rest

abbrev pub invariant-loop-rest : goal.invariant-loop-rest
invariant-loop-rest l = map (λ m. m.now) l.found.items ++ lines_below l.rest ≡ lines_below l.below
