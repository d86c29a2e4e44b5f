use Rattle.std.proofs.Common.{◌≡◌, ℕ, List, None, length}
use Rattle.ios_meaning.specs.Answers.{decided_from, held_at}
use Rattle.ios_meaning.proofs.prefix_answers.deciding_entries.Given as goal

abbrev pub decreases-loop-rest : goal.decreases-loop-rest
decreases-loop-rest l = length l.rest

abbrev pub invariant-loop-rest : goal.invariant-loop-rest
invariant-loop-rest l = (q : List ℕ) → decided_from (record { address = l.address; length = l.length }) q (held_at l.found q) l.rest ≡ decided_from (record { address = l.address; length = l.length }) q None l.items
