use Rattle.std.proofs.Common.{◌≡◌, length}
use Rattle.rpl_layout.specs.Sharing.{tests_of}
use Rattle.rpl_policies.specs.Noting.{noted_tests}
use Rattle.rpl_policies.proofs.noting.note_steps.Given as goal

abbrev pub invariant-loop-rest : goal.invariant-loop-rest
invariant-loop-rest l = noted_tests l.sets (tests_of l.rest) ≡ noted_tests l.fn.sets (tests_of l.steps)

abbrev pub decreases-loop-rest : goal.decreases-loop-rest
decreases-loop-rest l = length l.rest
