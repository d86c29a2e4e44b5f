-- What planned steps do: the first one whose guard holds on the route gives the outcome.
use Rattle.std.specs.Prelude.{◌≡◌, Bool, true, false, List, [], ◌∷◌}
use Rattle.std.specs.Bool.{beq}
use Rattle.std.specs.List.{list_all}
use Rattle.route_types.specs.Route.{RouteParts, InRange}
use Rattle.route_types.specs.Change.{changed_by}
use Rattle.route_types.specs.declared.route.Outcome.{Outcome}
use Rattle.route_types.specs.declared.route.Outcome.TheVariants.{Accept, Reject}
use Rattle.policy_core.specs.Guards.{literal_holds}
use Rattle.policy_core.specs.declared.step.Literal.{Literal}
use Rattle.policy_core.specs.declared.step.Step.{Step}
use Rattle.rpl_plans.specs.Actions.{acted_by}
use Rattle.rpl_plans.specs.Choices.{terms_hold}
use Rattle.rpl_plans.specs.Holds.{planned_holds}
use Rattle.rpl_plans.specs.declared.step.PlannedLiteral.{PlannedLiteral}
use Rattle.rpl_plans.specs.declared.step.PlannedStep.{PlannedStep}
use Rattle.rpl_plans.specs.declared.test.PlannedTest.{PlannedTest}

-- the terms answer what is wanted, by what tests answer
abbrev pub literal_says : (PlannedTest → Bool) → PlannedLiteral → Bool
literal_says holds l = beq (terms_hold holds l.terms) l.wanted

-- all literals of a guard hold
abbrev pub guard_says : (PlannedTest → Bool) → List PlannedLiteral → Bool
guard_says holds ls = list_all (literal_says holds) ls

-- the route is accepted, or rejected
abbrev pub ended_by : Bool → RouteParts → Outcome
ended_by true r = Accept r
ended_by false r = Reject

-- the first step whose guard holds changes the route, and accepts or rejects it
unfoldable pub planned_outcome : (PlannedTest → Bool) → List PlannedStep → RouteParts → Outcome
planned_outcome holds [] r = Reject
planned_outcome holds (s ∷ ss) r = elim (guard_says holds s.guard) [ true ↦ ended_by s.accept (acted_by s.actions r) | false ↦ planned_outcome holds ss r ]

-- ---- planned steps of guarded ones

-- a planned literal answers as the literal does
abbrev pub SaysLiteral : Literal → PlannedLiteral → Type 0
SaysLiteral l p = (r : RouteParts) → InRange r → literal_says (planned_holds r) p ≡ literal_holds l r

-- literal by literal
abbrev pub SaysGuard : List Literal → List PlannedLiteral → Type 0
SaysGuard [] [] = Unit {0}
SaysGuard (l ∷ ls) (p ∷ ps) = SaysLiteral l p × SaysGuard ls ps
SaysGuard _ _ = ⊥

-- a planned step does what the step does
pub record SaysStep (s : Step) (p : PlannedStep) : Type 0 where
  pub guard : SaysGuard s.guard p.guard
  pub actions : (r : RouteParts) → acted_by p.actions r ≡ changed_by s.actions r
  pub accept : p.accept ≡ s.accept

-- step by step
abbrev pub SaysSteps : List Step → List PlannedStep → Type 0
SaysSteps [] [] = Unit {0}
SaysSteps (s ∷ ss) (p ∷ ps) = SaysStep s p × SaysSteps ss ps
SaysSteps _ _ = ⊥
