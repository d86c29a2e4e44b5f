use Rattle.std.proofs.Common.{◌≡◌, length}
use Rattle.std.specs.List.{flat_map}
use Rattle.rpl_layout.specs.Sharing.{literal_tests}
use Rattle.rpl_policies.specs.Noting.{noted_tests}
use Rattle.rpl_policies.proofs.noting.note_guard.Given as goal

abbrev pub invariant-loop-rest : goal.invariant-loop-rest
invariant-loop-rest l = noted_tests l.sets (flat_map literal_tests l.rest) ≡ noted_tests l.fn.sets (flat_map literal_tests l.guard)

abbrev pub decreases-loop-rest : goal.decreases-loop-rest
decreases-loop-rest l = length l.rest
