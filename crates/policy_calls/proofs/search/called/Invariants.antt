use Rattle.std.proofs.Common.{◌≡◌, ◌||◌, ◌&&◌, ℕ, List, length}
use Rattle.std.specs.Prelude.{bytes_eq}
use Rattle.std.specs.List.{list_any}
use Rattle.policy_text.specs.NameSets.{has_name}
use Rattle.policy_calls.specs.Callees.{links_of}
use Rattle.policy_calls.proofs.search.called.Given as goal

abbrev pub invariant-loop-rest : goal.invariant-loop-rest
invariant-loop-rest l = (q : List ℕ) →
    (has_name l.set q 0 0 || list_any (λ k. bytes_eq q k.callee && has_name l.reached k.caller 0 0) (links_of l.rest)) ≡ list_any (λ k. bytes_eq q k.callee && has_name l.reached k.caller 0 0) (links_of l.calls)

abbrev pub decreases-loop-rest : goal.decreases-loop-rest
decreases-loop-rest l = length l.rest
