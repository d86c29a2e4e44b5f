-- What guards, subroutines and changes name: AS paths and communities of conditions, communities of changes, and subroutines
-- that are called; and that each name is that of its definition.
use Rattle.std.specs.Prelude.{ℕ, ◌<◌, ◌^◌, Bool, true, false, List, [], ◌∷◌, ◌++◌, map, length, Option, Some, None}
use Rattle.std.specs.List.{AllByRecursion, flat_map, list_any}
use Rattle.route_types.specs.Community.{RectParts}
use Rattle.route_types.specs.declared.community.CommChange.{CommChange}
use Rattle.junos_plans.specs.Fits.{SomeFit, FitsText, FitsMember, FitsTest, FitsLiteral, FitsList}
use Rattle.junos_plans.specs.declared.condition.PlannedCondition.{PlannedCondition}
use Rattle.junos_plans.specs.declared.condition.PlannedCondition.TheVariants.{Path, Communities}
use Rattle.junos_plans.specs.declared.condition.PlannedTest.{PlannedTest}
use Rattle.junos_plans.specs.declared.condition.PlannedTest.TheVariants.{Asked, Listed}
use Rattle.junos_plans.specs.declared.step.PlannedLiteral.{PlannedLiteral}
use Rattle.junos_plans.specs.declared.step.PlannedStep.{PlannedStep}
use Rattle.junos_layout.specs.Actions.{everything, is_all, member_alone}
use Rattle.junos_layout.specs.Options.{Definitions, path_name, community_name, subroutine_name, NamedAt}
use Rattle.junos_layout.specs.Terms.{subroutine_terms, step_terms}
use Rattle.junos_layout.specs.Writing.{Subroutine, OfList, Unless, AllOf, Writing}

-- ---- conditions

-- the patterns that a condition names
abbrev pub texts_in : PlannedCondition → List (List ℕ)
texts_in (Path texts) = texts
texts_in _ = []

-- the communities that a condition names
abbrev pub sets_in : PlannedCondition → List (List RectParts)
sets_in (Communities sets) = sets
sets_in _ = []

-- what is asked in place of a test: a condition, or calls of subroutines
abbrev pub test_conditions : PlannedTest → List PlannedCondition
test_conditions (Asked c) = c ∷ []
test_conditions (Listed ls) = []

abbrev pub test_calls : PlannedTest → List Subroutine
test_calls (Asked c) = []
test_calls (Listed ls) = map (λ l. OfList l) ls

-- ---- subroutines

-- what a literal asks in the subroutine of literals
abbrev pub literal_conditions : PlannedLiteral → List PlannedCondition
literal_conditions l = elim l.wanted [ true ↦ [] | false ↦ test_conditions l.test ]

abbrev pub literal_calls : PlannedLiteral → List Subroutine
literal_calls l = elim l.wanted [ true ↦ Unless l.test ∷ [] | false ↦ test_calls l.test ]

-- what the terms of a subroutine ask, and which subroutines they call
abbrev pub subroutine_conditions : Subroutine → List PlannedCondition
subroutine_conditions (OfList l) = map (λ e. e.condition) l.entries
subroutine_conditions (Unless test) = test_conditions test
subroutine_conditions (AllOf ls) = flat_map literal_conditions ls

abbrev pub subroutine_calls : Subroutine → List Subroutine
subroutine_calls (OfList l) = []
subroutine_calls (Unless test) = test_calls test
subroutine_calls (AllOf ls) = flat_map literal_calls ls

-- ---- steps

-- which subroutines the literals of a guard call
abbrev pub one_call : PlannedTest → Bool → List Subroutine
one_call (Listed ls) true = map (λ l. OfList l) ls
one_call test wanted = AllOf (record { test = test; wanted = wanted } ∷ []) ∷ []

abbrev pub guard_calls : List PlannedLiteral → List Subroutine
guard_calls [] = []
guard_calls (l ∷ []) = one_call l.test l.wanted
guard_calls (l ∷ m ∷ ls) = AllOf (l ∷ m ∷ ls) ∷ []

-- members, if there are any
abbrev pub some_members : List RectParts → List (List RectParts)
some_members [] = []
some_members (r ∷ rs) = (r ∷ rs) ∷ []

-- the members that take the place of all communities, or all that are deleted
abbrev pub replacing : List RectParts → List (List RectParts)
replacing [] = (everything ∷ []) ∷ []
replacing (r ∷ rs) = (r ∷ rs) ∷ []

-- the communities that a change names
abbrev pub change_sets : CommChange → List (List RectParts)
change_sets c = elim (list_any is_all c.removed) [
  | true ↦ replacing (map member_alone c.added)
  | false ↦ some_members c.removed ++ some_members (map member_alone c.added)
]

abbrev pub changed_sets : Option CommChange → List (List RectParts)
changed_sets None = []
changed_sets (Some c) = change_sets c

-- ---- each under its own name

-- the definition of a pattern, of a community, of a subroutine
abbrev pub NamesPath : List ℕ → Definitions → Writing → List ℕ → Type 0
NamesPath name defs w text = NamedAt (path_name name) defs.paths text (w.path text)

abbrev pub NamesSet : List ℕ → Definitions → Writing → List RectParts → Type 0
NamesSet name defs w members = NamedAt (community_name name) defs.communities members (w.community members)

abbrev pub NamesCall : List ℕ → Definitions → Writing → Subroutine → Type 0
NamesCall name defs w s = NamedAt (subroutine_name name) defs.subroutines s (w.subroutine s)

-- what a condition names
abbrev pub NamesCondition : List ℕ → Definitions → Writing → PlannedCondition → Type 0
NamesCondition name defs w c = AllByRecursion (NamesPath name defs w) (texts_in c) × AllByRecursion (NamesSet name defs w) (sets_in c)

-- what a subroutine names
pub record NamesInSubroutine (name : List ℕ) (defs : Definitions) (w : Writing) (s : Subroutine) : Type 0 where
  pub conditions : AllByRecursion (NamesCondition name defs w) (subroutine_conditions s)
  pub calls : AllByRecursion (NamesCall name defs w) (subroutine_calls s)

-- what a step names
pub record NamesInStep (name : List ℕ) (defs : Definitions) (w : Writing) (s : PlannedStep) : Type 0 where
  pub conditions : AllByRecursion (NamesCondition name defs w) s.guard.conditions
  pub calls : AllByRecursion (NamesCall name defs w) (guard_calls s.guard.literals)
  pub changes : AllByRecursion (NamesSet name defs w) (changed_sets s.changes.communities)

-- what steps and the subroutines that are defined name
pub record NamesDefinitions (name : List ℕ) (defs : Definitions) (w : Writing) (ss : List PlannedStep) : Type 0 where
  pub steps : AllByRecursion (NamesInStep name defs w) ss
  pub subroutines : AllByRecursion (NamesInSubroutine name defs w) defs.subroutines

-- ---- what fits, and can be counted

-- a subroutine
abbrev pub FitsSubroutine : Subroutine → Type 0
FitsSubroutine (OfList l) = FitsList l
FitsSubroutine (Unless test) = FitsTest test
FitsSubroutine (AllOf ls) = AllByRecursion FitsLiteral ls

-- definitions
pub record FitsDefinitions (defs : Definitions) : Type 0 where
  pub paths : AllByRecursion FitsText defs.paths
  pub communities : AllByRecursion (SomeFit FitsMember) defs.communities
  pub subroutines : AllByRecursion FitsSubroutine defs.subroutines

-- the definitions, and the terms of each policy, can be counted
pub record HasFew (defs : Definitions) (w : Writing) (ss : List PlannedStep) : Type 0 where
  pub paths : length defs.paths < 2 ^ 63
  pub communities : length defs.communities < 2 ^ 63
  pub subroutines : length defs.subroutines < 2 ^ 63
  pub terms : AllByRecursion (λ s. length (subroutine_terms w s) < 2 ^ 63) defs.subroutines
  pub steps : length (step_terms w ss) < 2 ^ 63
