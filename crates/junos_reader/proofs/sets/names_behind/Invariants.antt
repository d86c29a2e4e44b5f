use Rattle.std.proofs.Common.{◌≡◌, ℕ, List, length}
use Rattle.policy_calls.specs.Callees.{nows}
use Rattle.junos_reader.specs.Terms.{stands_behind}
use Rattle.junos_reader.proofs.sets.names_behind.Given as goal

abbrev pub invariant-loop-rest : goal.invariant-loop-rest
invariant-loop-rest l = (q : List ℕ) → stands_behind (nows l.all) (nows l.rest) q ≡ stands_behind (nows l.all) (nows l.names) q

abbrev pub decreases-loop-rest : goal.decreases-loop-rest
decreases-loop-rest l = length l.rest
