use Rattle.std.proofs.Common.{◌≡◌, ◌+◌, length}
use Rattle.junos_reader.specs.Faults.{undefined_from}
use Rattle.junos_reader.proofs.check.first_undefined.Given as goal

abbrev pub invariant-loop-rest : goal.invariant-loop-rest
invariant-loop-rest l = record { is : undefined_from l.items l.place l.rest ≡ undefined_from l.items 0 l.names; at : l.place + length l.rest ≡ length l.names }

abbrev pub decreases-loop-rest : goal.decreases-loop-rest
decreases-loop-rest l = length l.rest
