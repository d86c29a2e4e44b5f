use Rattle.std.proofs.Common.{◌≡◌, ◌&&◌, length}
use Rattle.std.specs.List.{list_any}
use Rattle.policy_text.specs.NameSets.{has_name}
use Rattle.policy_calls.specs.Callees.{links_of, has_pair}
use Rattle.policy_calls.proofs.pairs.has_cycle.Given as goal

abbrev pub invariant-loop-rest : goal.invariant-loop-rest
invariant-loop-rest l =
    list_any (λ k. has_name l.reached k.caller 0 0 && has_pair l.turning k.caller k.callee) (links_of l.rest)
    ≡ list_any (λ k. has_name l.reached k.caller 0 0 && has_pair l.turning k.caller k.callee) (links_of l.calls)

abbrev pub decreases-loop-rest : goal.decreases-loop-rest
decreases-loop-rest l = length l.rest
