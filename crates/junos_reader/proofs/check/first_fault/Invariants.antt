use Rattle.std.proofs.Common.{length}
use Rattle.junos_reader.specs.Walk.{IsWalking}
use Rattle.junos_reader.proofs.check.first_fault.Given as goal

abbrev pub invariant-loop-rest : goal.invariant-loop-rest
invariant-loop-rest l = IsWalking l.names l.items l.rest l.state

abbrev pub decreases-loop-rest : goal.decreases-loop-rest
decreases-loop-rest l = length l.rest
