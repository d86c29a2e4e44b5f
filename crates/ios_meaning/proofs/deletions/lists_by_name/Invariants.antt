use Rattle.std.proofs.Common.{◌≡◌, ◌++◌, ℕ, List, length}
use Rattle.ios_meaning.specs.Drafts.{entries_named, entries_at}
use Rattle.ios_meaning.proofs.deletions.lists_by_name.Given as goal

abbrev pub decreases-loop-rest : goal.decreases-loop-rest
decreases-loop-rest l = length l.rest

abbrev pub invariant-loop-rest : goal.invariant-loop-rest
invariant-loop-rest l = (q : List ℕ) → entries_at l.lists q ++ entries_named q l.rest ≡ entries_named q l.items
