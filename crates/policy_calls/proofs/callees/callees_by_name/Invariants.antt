use Rattle.std.proofs.Common.{◌≡◌, ◌++◌, ℕ, List, length}
use Rattle.policy_calls.specs.Callees.{callees_of, callees_at}
use Rattle.policy_calls.proofs.callees.callees_by_name.Given as goal

abbrev pub decreases-loop-rest : goal.decreases-loop-rest
decreases-loop-rest l = length l.rest

abbrev pub invariant-loop-rest : goal.invariant-loop-rest
invariant-loop-rest l = (q : List ℕ) → callees_at l.callees q ++ callees_of q l.rest ≡ callees_of q l.calls
