use Rattle.std.proofs.Common.{◌≡◌, ◌++◌, length}
use Rattle.junos_reader.proofs.check.copied_names.Given as goal

abbrev pub invariant-loop-rest : goal.invariant-loop-rest
invariant-loop-rest l = l.copies ++ l.rest ≡ l.names

abbrev pub decreases-loop-rest : goal.decreases-loop-rest
decreases-loop-rest l = length l.rest
