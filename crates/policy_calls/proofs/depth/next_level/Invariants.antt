use Rattle.std.proofs.Common.{◌≡◌, ◌||◌, ℕ, List, length}
use Rattle.std.specs.List.{list_any}
use Rattle.policy_calls.specs.Callees.{nows, callees_at}
use Rattle.policy_calls.specs.Search.{AreSame, among}
use Rattle.policy_calls.proofs.depth.next_level.Given as goal

abbrev pub invariant-loop-rest : goal.invariant-loop-rest
invariant-loop-rest l = record {
  same : AreSame l.seen l.order.items;
  called : (q : List ℕ) → (among (nows l.order.items) q || list_any (λ p. among (callees_at l.callees p) q) (nows l.rest)) ≡ list_any (λ p. among (callees_at l.callees p) q) (nows l.level);
}

abbrev pub decreases-loop-rest : goal.decreases-loop-rest
decreases-loop-rest l = length l.rest
