use Rattle.std.proofs.Common.{◌≡◌, ℕ, List, None, length}
use Rattle.ios_meaning.specs.Answers.{path_answered_from, held_at}
use Rattle.ios_meaning.proofs.path_answers.path_answers.Given as goal

abbrev pub decreases-loop-rest : goal.decreases-loop-rest
decreases-loop-rest l = length l.rest

abbrev pub invariant-loop-rest : goal.invariant-loop-rest
invariant-loop-rest l = (q : List ℕ) → path_answered_from l.path q (held_at l.found q) l.rest ≡ path_answered_from l.path q None l.items
