-- Planned steps give every route the outcome of the steps.
use Rattle.std.proofs.Common.{◌≡◌, refl, ap, ◌∙◌, Bool, true, false, ◌&&◌, List, [], ◌∷◌}
use Rattle.route_types.specs.Change.{changed_by}
use Rattle.route_types.specs.Route.{RouteParts, InRange}
use Rattle.route_types.specs.declared.route.Outcome.{Outcome}
use Rattle.core_nodes.specs.Outcome.{ended}
use Rattle.policy_core.specs.Guards.{guard_holds, outcome_of}
use Rattle.policy_core.specs.declared.step.Step.{Step}
use Rattle.junos_plans.specs.Changes.{changed_as}
use Rattle.junos_plans.specs.Conditions.{condition_holds}
use Rattle.junos_plans.specs.Plans.{planned_outcome, SaysSteps}
use Rattle.junos_plans.specs.declared.step.PlannedStep.{PlannedStep}

pub steps_same : (r : RouteParts) → InRange r → (ss : List Step) (ps : List PlannedStep) → SaysSteps ss ps → planned_outcome (condition_holds r) ps r ≡ outcome_of ss r
unfolding planned_outcome outcome_of
steps_same r range [] [] h = refl
steps_same r range (s ∷ ss) (p ∷ ps) h =
    ap (λ (b : Bool). elim b [ true ↦ ended p.accept (changed_as p.changes r) | false ↦ planned_outcome (condition_holds r) ps r ]) (h.0.guard r range)
    ∙ ap (λ (b : Bool). elim (guard_holds s.guard r) [ true ↦ ended b (changed_as p.changes r) | false ↦ planned_outcome (condition_holds r) ps r ]) h.0.accept
    ∙ ap (λ (q : RouteParts). elim (guard_holds s.guard r) [ true ↦ ended s.accept q | false ↦ planned_outcome (condition_holds r) ps r ]) (h.0.changes r)
    ∙ ap (λ (o : Outcome). elim (guard_holds s.guard r) [ true ↦ ended s.accept (changed_by s.actions r) | false ↦ o ]) (steps_same r range ss ps h.1)
steps_same r range [] (p ∷ ps) h = absurd h
steps_same r range (s ∷ ss) [] h = absurd h

and_three : (a b c : Bool) → ((a && b) && c) ≡ (a && (b && c))
and_three true b c = refl
and_three false b c = refl

-- one more literal of a guard
pub literal_taken : (before after here wanted rest : Bool) → after ≡ (before && wanted) → wanted ≡ here → (after && rest) ≡ (before && (here && rest))
literal_taken before after here wanted rest says same = ap (λ (b : Bool). b && rest) says ∙ and_three before wanted rest ∙ ap (λ (b : Bool). before && (b && rest)) same
