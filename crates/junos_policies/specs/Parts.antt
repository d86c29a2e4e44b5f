-- What a plan has to define: the guards that subroutines say, the tests that guards refuse, the lists that are called, and the
-- AS paths and communities that are named; each once.
use Rattle.std.specs.Prelude.{ℕ, ◌+◌, Bool, true, false, not, List, [], ◌∷◌, ◌++◌, map, length}
use Rattle.std.specs.List.{flat_map}
use Rattle.route_types.specs.Community.{RectParts}
use Rattle.junos_plans.specs.declared.condition.PlannedCondition.{PlannedCondition}
use Rattle.junos_plans.specs.declared.condition.PlannedList.{PlannedList}
use Rattle.junos_plans.specs.declared.condition.PlannedTest.{PlannedTest}
use Rattle.junos_plans.specs.declared.condition.PlannedTest.TheVariants.{Asked, Listed}
use Rattle.junos_plans.specs.declared.step.PlannedLiteral.{PlannedLiteral}
use Rattle.junos_plans.specs.declared.step.PlannedStep.{PlannedStep}
use Rattle.junos_layout.specs.Options.{Definitions, path_name, community_name, subroutine_name}
use Rattle.junos_layout.specs.Uses.{texts_in, sets_in, changed_sets}
use Rattle.junos_layout.specs.Writing.{Subroutine, OfList, Unless, AllOf, Writing}
use Rattle.junos_policies.specs.Noting.{noted_all, place_in}
use Rattle.junos_policies.specs.Same.{same_text, same_members, same_list, same_test, same_guard}

-- what is defined, those of each sort in the order of their first use
pub record PartsList : Type 0 where
  pub paths : List (List ℕ)
  pub communities : List (List RectParts)
  pub lists : List PlannedList
  pub tests : List PlannedTest
  pub guards : List (List PlannedLiteral)

-- ---- guards

-- a literal that lists say
abbrev pub is_by_lists : PlannedTest → Bool → Bool
is_by_lists (Asked c) wanted = false
is_by_lists (Listed ls) wanted = wanted

-- a subroutine says the literals
abbrev pub needs_guard : List PlannedLiteral → Bool
needs_guard [] = false
needs_guard (l ∷ []) = not (is_by_lists l.test l.wanted)
needs_guard (l ∷ m ∷ ls) = true

-- the literals that a subroutine says
abbrev pub guards_in : List PlannedLiteral → List (List PlannedLiteral)
guards_in ls = elim (needs_guard ls) [ true ↦ ls ∷ [] | false ↦ [] ]

abbrev pub step_guards : PlannedStep → List (List PlannedLiteral)
step_guards s = guards_in s.guard.literals

-- the lists of a test
abbrev pub test_lists : PlannedTest → List PlannedList
test_lists (Asked c) = []
test_lists (Listed ls) = ls

-- the lists that a guard calls itself
abbrev pub wanted_lists : PlannedLiteral → List PlannedList
wanted_lists l = elim l.wanted [ true ↦ test_lists l.test | false ↦ [] ]

abbrev pub guard_lists : List PlannedLiteral → List PlannedList
guard_lists [] = []
guard_lists (l ∷ []) = wanted_lists l
guard_lists (l ∷ m ∷ ls) = []

abbrev pub guards_of : List PlannedStep → List (List PlannedLiteral)
guards_of steps = noted_all same_guard [] (flat_map step_guards steps)

-- ---- tests and lists

-- the test of a literal that is wanted: a subroutine refuses where it doesn't hold
abbrev pub wanted_tests : PlannedLiteral → List PlannedTest
wanted_tests l = elim l.wanted [ true ↦ l.test ∷ [] | false ↦ [] ]

abbrev pub tests_of : List (List PlannedLiteral) → List PlannedTest
tests_of guards = noted_all same_test [] (flat_map (λ g. flat_map wanted_tests g) guards)

-- the lists of a literal that isn't wanted
abbrev pub unwanted_lists : PlannedLiteral → List PlannedList
unwanted_lists l = elim l.wanted [ true ↦ [] | false ↦ test_lists l.test ]

-- those that steps call, guards and tests
abbrev pub lists_of : List PlannedStep → List (List PlannedLiteral) → List PlannedTest → List PlannedList
lists_of steps guards tests =
    noted_all same_list (noted_all same_list (noted_all same_list [] (flat_map (λ s. guard_lists s.guard.literals) steps)) (flat_map (λ g. flat_map unwanted_lists g) guards)) (flat_map test_lists tests)

-- ---- what conditions name

-- in a test, in a literal that isn't wanted
abbrev pub in_test : {T : Type 0} → (PlannedCondition → List T) → PlannedTest → List T
in_test named (Asked c) = named c
in_test named (Listed ls) = []

abbrev pub in_literal : {T : Type 0} → (PlannedCondition → List T) → PlannedLiteral → List T
in_literal named l = elim l.wanted [ true ↦ [] | false ↦ in_test named l.test ]

-- in all of them
abbrev pub named_by : {T : Type 0} → (T → T → Bool) → (PlannedCondition → List T) → List PlannedStep → List PlannedList → List PlannedTest → List (List PlannedLiteral) → List T
named_by same named steps lists tests guards =
    noted_all same
    (noted_all same (noted_all same (noted_all same [] (flat_map (λ s. flat_map named s.guard.conditions) steps)) (flat_map (λ l. flat_map (λ e. named e.condition) l.entries) lists)) (flat_map (in_test named) tests))
    (flat_map (λ g. flat_map (in_literal named) g) guards)

-- the communities that changes name too
abbrev pub with_changes : List (List RectParts) → List PlannedStep → List (List RectParts)
with_changes sets steps = noted_all same_members sets (flat_map (λ s. changed_sets s.changes.communities) steps)

-- ---- all of them

-- what guards, tests and lists name
abbrev pub parts_over : List PlannedStep → List PlannedList → List PlannedTest → List (List PlannedLiteral) → PartsList
parts_over steps lists tests guards = record {
  paths = named_by same_text texts_in steps lists tests guards;
  communities = with_changes (named_by same_members sets_in steps lists tests guards) steps;
  lists = lists;
  tests = tests;
  guards = guards;
}

abbrev pub parts_by : List PlannedStep → List PlannedTest → List (List PlannedLiteral) → PartsList
parts_by steps tests guards = parts_over steps (lists_of steps guards tests) tests guards

abbrev pub parts_of : List PlannedStep → PartsList
parts_of steps = parts_by steps (tests_of (guards_of steps)) (guards_of steps)

-- the definitions: lists, then the tests that call them, then the guards that call both
abbrev pub definitions : PartsList → Definitions
definitions p = record { paths = p.paths; communities = p.communities; subroutines = map (λ l. OfList l) p.lists ++ (map (λ t. Unless t) p.tests ++ map (λ g. AllOf g) p.guards) }

-- ---- their names

-- the place of a subroutine
abbrev pub place_of : PartsList → Subroutine → ℕ
place_of p (OfList l) = place_in (same_list l) p.lists
place_of p (Unless t) = length p.lists + place_in (same_test t) p.tests
place_of p (AllOf g) = length p.lists + (length p.tests + place_in (same_guard g) p.guards)

unfoldable pub written_by : List ℕ → PartsList → Writing
written_by name p = record {
  path = λ t. path_name name (place_in (same_text t) p.paths);
  community = λ m. community_name name (place_in (same_members m) p.communities);
  subroutine = λ s. subroutine_name name (place_of p s);
}
