-- What planned steps do: the first one whose guard holds for the route gives the outcome.
use Rattle.std.specs.Prelude.{◌≡◌, Bool, true, false, ◌&&◌, List, [], ◌∷◌}
use Rattle.std.specs.Bool.{beq}
use Rattle.std.specs.List.{list_all}
use Rattle.route_types.specs.Route.{RouteParts, InRange}
use Rattle.route_types.specs.Change.{changed_by}
use Rattle.route_types.specs.declared.route.Outcome.{Outcome}
use Rattle.route_types.specs.declared.route.Outcome.TheVariants.{Reject}
use Rattle.core_nodes.specs.Outcome.{ended}
use Rattle.policy_core.specs.Guards.{guard_holds}
use Rattle.policy_core.specs.declared.step.Step.{Step}
use Rattle.junos_plans.specs.Changes.{changed_as}
use Rattle.junos_plans.specs.Conditions.{condition_holds, test_holds}
use Rattle.junos_plans.specs.declared.condition.PlannedCondition.{PlannedCondition}
use Rattle.junos_plans.specs.declared.step.PlannedGuard.{PlannedGuard}
use Rattle.junos_plans.specs.declared.step.PlannedLiteral.{PlannedLiteral}
use Rattle.junos_plans.specs.declared.step.PlannedStep.{PlannedStep}

-- what the literal asks answers what is wanted, by what conditions answer
abbrev pub literal_says : (PlannedCondition → Bool) → PlannedLiteral → Bool
literal_says holds l = beq (test_holds holds l.test) l.wanted

-- all conditions and all literals of a guard hold
abbrev pub guard_says : (PlannedCondition → Bool) → PlannedGuard → Bool
guard_says holds g = list_all holds g.conditions && list_all (literal_says holds) g.literals

-- the first step whose guard holds changes the route, and accepts or rejects it
unfoldable pub planned_outcome : (PlannedCondition → Bool) → List PlannedStep → RouteParts → Outcome
planned_outcome holds [] r = Reject
planned_outcome holds (s ∷ ss) r = elim (guard_says holds s.guard) [ true ↦ ended s.accept (changed_as s.changes r) | false ↦ planned_outcome holds ss r ]

-- ---- planned steps of guarded ones

-- a planned step does what the step does
pub record SaysStep (s : Step) (p : PlannedStep) : Type 0 where
  pub guard : (r : RouteParts) → InRange r → guard_says (condition_holds r) p.guard ≡ guard_holds s.guard r
  pub changes : (r : RouteParts) → changed_as p.changes r ≡ changed_by s.actions r
  pub accept : p.accept ≡ s.accept

-- step by step
abbrev pub SaysSteps : List Step → List PlannedStep → Type 0
SaysSteps [] [] = Unit {0}
SaysSteps (s ∷ ss) (p ∷ ps) = SaysStep s p × SaysSteps ss ps
SaysSteps _ _ = ⊥
