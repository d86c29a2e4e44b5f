use Rattle.std.proofs.Common.{◌≡◌, length}
use Rattle.rpl_policies.specs.Noting.{noted_tests}
use Rattle.rpl_policies.proofs.noting.note_tests.Given as goal

abbrev pub invariant-loop-rest : goal.invariant-loop-rest
invariant-loop-rest l = noted_tests l.sets l.rest ≡ noted_tests l.fn.sets l.tests

abbrev pub decreases-loop-rest : goal.decreases-loop-rest
decreases-loop-rest l = length l.rest
