use Rattle.std.proofs.Common.{◌≡◌, length}
use Rattle.std.specs.List.{flat_map}
use Rattle.junos_policies.specs.Noting.{noted_all}
use Rattle.junos_policies.specs.Parts.{step_guards}
use Rattle.junos_policies.specs.Same.{same_guard}
use Rattle.junos_policies.proofs.noting.note_guards.Given as goal

abbrev pub invariant-loop-rest : goal.invariant-loop-rest
invariant-loop-rest l = noted_all same_guard l.set.keys (flat_map step_guards l.rest) ≡ noted_all same_guard l.fn.set.keys (flat_map step_guards l.steps)

abbrev pub decreases-loop-rest : goal.decreases-loop-rest
decreases-loop-rest l = length l.rest
