use Rattle.std.proofs.Common.{◌≡◌, ◌||◌, ◌&&◌, ℕ, List, length}
use Rattle.std.specs.List.{list_any}
use Rattle.policy_calls.specs.Calls.{is_link, leads}
use Rattle.policy_calls.specs.Callees.{links_of, has_pair}
use Rattle.policy_calls.proofs.turning.turning_by_search.Given as goal

abbrev pub invariant-loop-rest : goal.invariant-loop-rest
invariant-loop-rest l = (p q : List ℕ) →
    (has_pair l.pairs p q || list_any (λ k. is_link p q k && leads (links_of l.calls) k.callee k.caller) (links_of l.rest))
    ≡ list_any (λ k. is_link p q k && leads (links_of l.calls) k.callee k.caller) (links_of l.calls)

abbrev pub decreases-loop-rest : goal.decreases-loop-rest
decreases-loop-rest l = length l.rest
