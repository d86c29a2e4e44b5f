use Rattle.std.proofs.Common.{ℕ, List, length}
use Rattle.ios_lower.specs.Deletions.{AreTaken}
use Rattle.ios_lower.specs.Named.{IfUnder, entries_under}
use Rattle.ios_lower.proofs.taken.taken_by_entries.Given as goal

abbrev pub invariant-loop-rest : goal.invariant-loop-rest
invariant-loop-rest l = (q : List ℕ) → IfUnder (AreTaken (entries_under l.lists q)) l.taken q

abbrev pub decreases-loop-rest : goal.decreases-loop-rest
decreases-loop-rest l = length l.rest
