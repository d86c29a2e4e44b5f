use Rattle.std.proofs.Common.{◌≡◌, ◌||◌, ℕ, List, length}
use Rattle.policy_calls.specs.Calls.{has_link}
use Rattle.policy_calls.specs.Callees.{links_of, has_pair}
use Rattle.policy_calls.proofs.ranks.pairs_of.Given as goal

abbrev pub invariant-loop-rest : goal.invariant-loop-rest
invariant-loop-rest l = (p q : List ℕ) → (has_pair l.pairs p q || has_link (links_of l.rest) p q) ≡ has_link (links_of l.calls) p q

abbrev pub decreases-loop-rest : goal.decreases-loop-rest
decreases-loop-rest l = length l.rest
