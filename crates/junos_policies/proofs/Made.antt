-- The parts of a plan, made over slices of what was made before.
use Rattle.std.proofs.Common.{◌≡◌, ◌∙◌, List}
use Rattle.junos_plans.specs.declared.condition.PlannedList.{PlannedList}
use Rattle.junos_plans.specs.declared.condition.PlannedTest.{PlannedTest}
use Rattle.junos_plans.specs.declared.step.PlannedLiteral.{PlannedLiteral}
use Rattle.junos_plans.specs.declared.step.PlannedStep.{PlannedStep}
use Rattle.junos_layout.specs.Uses.{texts_in, sets_in}
use Rattle.junos_policies.specs.Parts.{PartsList, lists_of, named_by, with_changes, parts_by}
use Rattle.junos_policies.specs.Same.{same_text, same_members}

pub made : (steps : List PlannedStep) (p : PartsList) (lists : List PlannedList) (tests : List PlannedTest) (guards : List (List PlannedLiteral))
    → lists ≡ p.lists → tests ≡ p.tests → guards ≡ p.guards → p.lists ≡ lists_of steps guards tests → p.paths ≡ named_by same_text texts_in steps lists tests guards
    → p.communities ≡ with_changes (named_by same_members sets_in steps lists tests guards) steps → p ≡ parts_by steps p.tests p.guards
made steps p lists tests guards l t g listed paths communities =
    let lists_is = listed ∙ (λ i. lists_of steps (g i) (t i)) in
    let lists_are = l ∙ lists_is in
    let paths_are = paths ∙ (λ i. named_by same_text texts_in steps (lists_are i) (t i) (g i)) in
    let communities_are = communities ∙ (λ i. with_changes (named_by same_members sets_in steps (lists_are i) (t i) (g i)) steps) in
    λ i. record { paths = paths_are i; communities = communities_are i; lists = lists_is i; tests = p.tests; guards = p.guards }
