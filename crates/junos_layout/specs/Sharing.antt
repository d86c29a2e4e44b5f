-- The definitions of planned steps: each AS path, each community and each subroutine once, in the order of their first use, and
-- each named by its place.
use Rattle.std.specs.Prelude.{◌≡◌, ℕ, suc, Bool, true, false, List, [], ◌∷◌, ◌++◌, if◌then◌else◌}
use Rattle.std.specs.Bool.{Decides}
use Rattle.std.specs.List.{list_any, flat_map}
use Rattle.route_types.specs.Community.{RectParts}
use Rattle.junos_plans.specs.declared.condition.PlannedCondition.{PlannedCondition}
use Rattle.junos_plans.specs.declared.step.PlannedLiteral.{PlannedLiteral}
use Rattle.junos_plans.specs.declared.step.PlannedStep.{PlannedStep}
use Rattle.junos_layout.specs.Options.{Definitions, path_name, community_name, subroutine_name}
use Rattle.junos_layout.specs.Uses.{texts_in, sets_in, test_calls, subroutine_conditions, guard_calls, changed_sets}
use Rattle.junos_layout.specs.Writing.{Subroutine, OfList, Unless, AllOf, Writing}

-- ---- what steps use, in the order in which it is written

-- a literal's subroutines in the subroutine of literals
abbrev pub literal_subroutines : PlannedLiteral → List Subroutine
literal_subroutines l = elim l.wanted [ true ↦ Unless l.test ∷ test_calls l.test | false ↦ test_calls l.test ]

-- a subroutine, and those that it calls, on and on
abbrev pub with_calls : Subroutine → List Subroutine
with_calls (OfList l) = OfList l ∷ []
with_calls (Unless test) = Unless test ∷ test_calls test
with_calls (AllOf ls) = AllOf ls ∷ flat_map literal_subroutines ls

abbrev pub step_subroutines : PlannedStep → List Subroutine
step_subroutines s = flat_map with_calls (guard_calls s.guard.literals)

abbrev pub step_conditions : PlannedStep → List PlannedCondition
step_conditions s = s.guard.conditions ++ flat_map subroutine_conditions (step_subroutines s)

abbrev pub step_texts : PlannedStep → List (List ℕ)
step_texts s = flat_map texts_in (step_conditions s)

abbrev pub step_sets : PlannedStep → List (List RectParts)
step_sets s = flat_map sets_in (step_conditions s) ++ changed_sets s.changes.communities

-- ---- each once

-- one more, where none is the same
abbrev pub noted : {D : Type 0} → (D → D → Bool) → List D → D → List D
noted same ds d = if list_any (same d) ds then ds else ds ++ d ∷ []

-- more of them, one after the other
unfoldable pub noted_all : {D : Type 0} → (D → D → Bool) → List D → List D → List D
noted_all same ds [] = ds
noted_all same ds (x ∷ xs) = noted_all same (noted same ds x) xs

-- the place of the first that passes the test
unfoldable pub place_in : {D : Type 0} → (D → Bool) → List D → ℕ
place_in test [] = 0
place_in test (d ∷ ds) = elim (test d) [ true ↦ 0 | false ↦ suc (place_in test ds) ]

-- tests that tell definitions apart
pub record Tells : Type 0 where
  pub texts : List ℕ → List ℕ → Bool
  pub rects : List RectParts → List RectParts → Bool
  pub subroutines : Subroutine → Subroutine → Bool
  pub texts_decide : (a b : List ℕ) → Decides (texts a b) (a ≡ b)
  pub rects_decide : (a b : List RectParts) → Decides (rects a b) (a ≡ b)
  pub subroutines_decide : (a b : Subroutine) → Decides (subroutines a b) (a ≡ b)

-- the definitions of steps
abbrev pub definitions_of : Tells → List PlannedStep → Definitions
definitions_of tells steps = record {
  paths = noted_all tells.texts [] (flat_map step_texts steps);
  communities = noted_all tells.rects [] (flat_map step_sets steps);
  subroutines = noted_all tells.subroutines [] (flat_map step_subroutines steps);
}

-- the names of definitions by their places
abbrev pub written_by : Tells → List ℕ → Definitions → Writing
written_by tells name defs = record {
  path = λ text. path_name name (place_in (tells.texts text) defs.paths);
  community = λ members. community_name name (place_in (tells.rects members) defs.communities);
  subroutine = λ s. subroutine_name name (place_in (tells.subroutines s) defs.subroutines);
}
