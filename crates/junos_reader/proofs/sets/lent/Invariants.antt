use Rattle.std.proofs.Common.{◌≡◌, ◌++◌, length}
use Rattle.policy_calls.specs.Callees.{nows}
use Rattle.junos_reader.proofs.sets.lent.Given as goal

abbrev pub invariant-loop-rest : goal.invariant-loop-rest
invariant-loop-rest l = nows l.row ++ l.rest ≡ l.names

abbrev pub decreases-loop-rest : goal.decreases-loop-rest
decreases-loop-rest l = length l.rest
