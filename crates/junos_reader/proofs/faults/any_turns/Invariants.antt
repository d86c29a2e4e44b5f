use Rattle.std.proofs.Common.{◌≡◌, length}
use Rattle.std.specs.List.{list_any}
use Rattle.policy_calls.specs.Callees.{has_pair}
use Rattle.junos_reader.proofs.faults.any_turns.Given as goal

abbrev pub invariant-loop-rest : goal.invariant-loop-rest
invariant-loop-rest l = list_any (λ q. has_pair l.pairs l.policy q) l.rest ≡ list_any (λ q. has_pair l.pairs l.policy q) l.called

abbrev pub decreases-loop-rest : goal.decreases-loop-rest
decreases-loop-rest l = length l.rest
