use Rattle.std.proofs.Common.{◌≡◌, ℕ, List, None, length}
use Rattle.ios_meaning.specs.Answers.{answered_from, held_at}
use Rattle.ios_meaning.proofs.community_answers.answers.Given as goal

abbrev pub decreases-loop-rest : goal.decreases-loop-rest
decreases-loop-rest l = length l.rest

abbrev pub invariant-loop-rest : goal.invariant-loop-rest
invariant-loop-rest l = (q : List ℕ) → answered_from l.exact l.ordered q (held_at l.found q) l.rest ≡ answered_from l.exact l.ordered q None l.items
