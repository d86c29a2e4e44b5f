use Rattle.std.proofs.Common.{◌≡◌, ℕ, length}
use Rattle.ios_meaning.specs.Deletions.{has_key, first_answer, answer_from, answer_at}
use Rattle.ios_meaning.proofs.deletion_index.map_of.Given as goal

abbrev pub decreases-loop-rest : goal.decreases-loop-rest
decreases-loop-rest l = length l.rest

abbrev pub invariant-loop-rest : goal.invariant-loop-rest
invariant-loop-rest l = (n : ℕ) → answer_from (has_key l.sort n) (answer_at l.found n) l.rest ≡ first_answer (has_key l.sort n) l.entries
