use Rattle.std.proofs.Common.{refl, ◌∙◌, ap, List}
use Rattle.std.specs.List.{flat_map}
use Rattle.rpl_plans.specs.declared.step.PlannedStep.{PlannedStep}
use Rattle.rpl_plans.specs.declared.step.PlannedLiteral.{PlannedLiteral}
use Rattle.rpl_policies.specs.Noting.{noted_tests}
use Rattle.rpl_layout.specs.Sharing.{literal_tests}
use Rattle.rpl_policies.proofs.Noted.{items_noted}
use Rattle.rpl_policies.proofs.noting.note_steps.Goals as goal

pub loop-rest-preserved : goal.loop-rest-preserved
loop-rest-preserved c =
    items_noted (λ (s : PlannedStep). flat_map literal_tests s.guard) c.loop-rest.sets _ c.loop-rest.rest.now c.step-item.result _ c.in-len1-up.len_at_least c.step-item.is refl (c.in_ok-note_guard.ensures ∙ ap (λ (ls : List PlannedLiteral). noted_tests c.loop-rest.sets (flat_map literal_tests ls)) c.as_slice.ensures)
    ∙ c.loop-rest.invariant
