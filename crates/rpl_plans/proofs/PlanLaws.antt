-- Planned steps give every route the outcome of the steps.
use Rattle.std.proofs.Common.{◌≡◌, refl, ap, ◌∙◌, Bool, true, false, ◌&&◌, List, [], ◌∷◌}
use Rattle.route_types.specs.Change.{changed_by}
use Rattle.route_types.specs.Route.{RouteParts, InRange}
use Rattle.route_types.specs.declared.route.Outcome.{Outcome}
use Rattle.core_nodes.specs.Outcome.{ended}
use Rattle.policy_core.specs.Guards.{literal_holds, guard_holds, outcome_of}
use Rattle.policy_core.specs.declared.step.Literal.{Literal}
use Rattle.policy_core.specs.declared.step.Step.{Step}
use Rattle.rpl_plans.specs.Actions.{acted_by}
use Rattle.rpl_plans.specs.Holds.{planned_holds}
use Rattle.rpl_plans.specs.Plans.{guard_says, ended_by, planned_outcome, SaysGuard, SaysSteps}
use Rattle.rpl_plans.specs.declared.step.PlannedLiteral.{PlannedLiteral}
use Rattle.rpl_plans.specs.declared.step.PlannedStep.{PlannedStep}

guard_same : (r : RouteParts) → InRange r → (ls : List Literal) (ps : List PlannedLiteral) → SaysGuard ls ps → guard_says (planned_holds r) ps ≡ guard_holds ls r
guard_same r range [] [] h = refl
guard_same r range (l ∷ ls) (p ∷ ps) h =
    ap (λ b. b && guard_says (planned_holds r) ps) (h.0 r range)
    ∙ ap (λ b. literal_holds l r && b) (guard_same r range ls ps h.1)
guard_same r range [] (p ∷ ps) h = absurd h
guard_same r range (l ∷ ls) [] h = absurd h

ends_same : (b : Bool) (r : RouteParts) → ended_by b r ≡ ended b r
ends_same true r = refl
ends_same false r = refl

pub steps_same : (r : RouteParts) → InRange r → (ss : List Step) (ps : List PlannedStep) → SaysSteps ss ps → planned_outcome (planned_holds r) ps r ≡ outcome_of ss r
unfolding planned_outcome outcome_of
steps_same r range [] [] h = refl
steps_same r range (s ∷ ss) (p ∷ ps) h =
    ap (λ (b : Bool). elim b [ true ↦ ended_by p.accept (acted_by p.actions r) | false ↦ planned_outcome (planned_holds r) ps r ]) (guard_same r range s.guard p.guard h.0.guard)
    ∙ ap (λ (b : Bool). elim (guard_holds s.guard r) [ true ↦ ended_by b (acted_by p.actions r) | false ↦ planned_outcome (planned_holds r) ps r ]) h.0.accept
    ∙ ap (λ (q : RouteParts). elim (guard_holds s.guard r) [ true ↦ ended_by s.accept q | false ↦ planned_outcome (planned_holds r) ps r ]) (h.0.actions r)
    ∙ ap (λ (o : Outcome). elim (guard_holds s.guard r) [ true ↦ o | false ↦ planned_outcome (planned_holds r) ps r ]) (ends_same s.accept (changed_by s.actions r))
    ∙ ap (λ (o : Outcome). elim (guard_holds s.guard r) [ true ↦ ended s.accept (changed_by s.actions r) | false ↦ o ]) (steps_same r range ss ps h.1)
steps_same r range [] (p ∷ ps) h = absurd h
steps_same r range (s ∷ ss) [] h = absurd h
