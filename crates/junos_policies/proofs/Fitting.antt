-- A text of Junos can say what the steps define.
use Rattle.std.proofs.Common.{◌≡◌, refl, ℕ, ◌/◌, ◌%◌, ◌^◌, ◌==◌, ◌&&◌, ◌||◌, eq-eqb, Bool, true, false, List, [], ◌∷◌, ◌++◌, map, Option, Some, None, arith}
use Rattle.std.specs.List.{flat_map, list_any, AllByRecursion}
use Rattle.route_types.specs.Community.{RectParts}
use Rattle.route_types.specs.declared.community.CommChange.{CommChange}
use Rattle.route_types.specs.declared.community.Community.{Community}
use Rattle.junos_plans.specs.Fits.{SomeFit, FitsText, FitsMember, FitsCommunity, FitsCondition, FitsEntry, FitsList, FitsTest, FitsLiteral, FitsChange, FitsValue, FitsStep, FitsSteps}
use Rattle.junos_plans.specs.declared.condition.PlannedCondition.{PlannedCondition}
use Rattle.junos_plans.specs.declared.condition.PlannedCondition.TheVariants.{Anything, Destination, NextHop, Path, Communities, Med, LocalPreference, Origin}
use Rattle.junos_plans.specs.declared.condition.PlannedList.{PlannedList}
use Rattle.junos_plans.specs.declared.condition.PlannedTest.{PlannedTest}
use Rattle.junos_plans.specs.declared.condition.PlannedTest.TheVariants.{Asked, Listed}
use Rattle.junos_plans.specs.declared.step.PlannedLiteral.{PlannedLiteral}
use Rattle.junos_plans.specs.declared.step.PlannedStep.{PlannedStep}
use Rattle.junos_layout.specs.Actions.{everything, is_all, member_alone}
use Rattle.junos_layout.specs.Uses.{texts_in, sets_in, some_members, replacing, changed_sets, FitsSubroutine, FitsDefinitions}
use Rattle.junos_layout.specs.Writing.{OfList, Unless, AllOf}
use Rattle.junos_policies.specs.Parts.{PartsList, needs_guard, step_guards, guards_of, test_lists, guard_lists, wanted_tests, tests_of, unwanted_lists, lists_of, in_test, in_literal, named_by, parts_of, definitions}
use Rattle.junos_policies.specs.Same.{same_text, same_members, same_list, same_test, same_guard}
use Rattle.junos_policies.proofs.Every.{both, gathered, made_of}
use Rattle.junos_policies.proofs.Found.{noted_fit}

-- ---- guards, tests and lists

abbrev pub FitsGuardLiterals : List PlannedLiteral → Type 0
FitsGuardLiterals g = AllByRecursion FitsLiteral g

step_fits : (s : PlannedStep) → FitsStep s → AllByRecursion FitsGuardLiterals (step_guards s)
step_fits s h = at (needs_guard s.guard.literals)
  where
    at : (b : Bool) → AllByRecursion FitsGuardLiterals (elim b [ true ↦ s.guard.literals ∷ [] | false ↦ [] ])
    at true = (h.guard.literals, tt)
    at false = tt

guards_fit : (steps : List PlannedStep) → FitsSteps steps → AllByRecursion FitsGuardLiterals (guards_of steps)
guards_fit steps h = noted_fit same_guard FitsGuardLiterals (flat_map step_guards steps) [] tt (gathered FitsStep FitsGuardLiterals step_guards step_fits steps h)

wanted_fit : (l : PlannedLiteral) → FitsLiteral l → AllByRecursion FitsTest (wanted_tests l)
wanted_fit l h = at l.wanted
  where
    at : (b : Bool) → AllByRecursion FitsTest (elim b [ true ↦ l.test ∷ [] | false ↦ [] ])
    at true = (h, tt)
    at false = tt

tests_fit : (guards : List (List PlannedLiteral)) → AllByRecursion FitsGuardLiterals guards → AllByRecursion FitsTest (tests_of guards)
tests_fit guards h =
    noted_fit same_test FitsTest (flat_map (λ g. flat_map wanted_tests g) guards) [] tt
    (gathered FitsGuardLiterals FitsTest (λ g. flat_map wanted_tests g) (λ g k. gathered FitsLiteral FitsTest wanted_tests wanted_fit g k) guards h)

test_lists_fit : (t : PlannedTest) → FitsTest t → AllByRecursion FitsList (test_lists t)
test_lists_fit (Asked c) h = tt
test_lists_fit (Listed ls) h = h.1

wanted_lists_fit : (l : PlannedLiteral) (b : Bool) → FitsLiteral l → AllByRecursion FitsList (elim b [ true ↦ test_lists l.test | false ↦ [] ])
wanted_lists_fit l true h = test_lists_fit l.test h
wanted_lists_fit l false h = tt

unwanted_lists_fit : (l : PlannedLiteral) (b : Bool) → FitsLiteral l → AllByRecursion FitsList (elim b [ true ↦ [] | false ↦ test_lists l.test ])
unwanted_lists_fit l true h = tt
unwanted_lists_fit l false h = test_lists_fit l.test h

guard_lists_fit : (ls : List PlannedLiteral) → AllByRecursion FitsLiteral ls → AllByRecursion FitsList (guard_lists ls)
guard_lists_fit [] h = tt
guard_lists_fit (l ∷ []) h = wanted_lists_fit l l.wanted h.0
guard_lists_fit (l ∷ m ∷ ls) h = tt

lists_fit : (steps : List PlannedStep) (guards : List (List PlannedLiteral)) (tests : List PlannedTest) → FitsSteps steps → AllByRecursion FitsGuardLiterals guards → AllByRecursion FitsTest tests
    → AllByRecursion FitsList (lists_of steps guards tests)
lists_fit steps guards tests h g t =
    noted_fit same_list FitsList (flat_map test_lists tests) _
    (
    noted_fit same_list FitsList (flat_map (λ x. flat_map unwanted_lists x) guards) _
    (noted_fit same_list FitsList (flat_map (λ s. guard_lists s.guard.literals) steps) [] tt (gathered FitsStep FitsList (λ s. guard_lists s.guard.literals) (λ s k. guard_lists_fit s.guard.literals k.guard.literals) steps h))
    (gathered FitsGuardLiterals FitsList (λ x. flat_map unwanted_lists x) (λ x k. gathered FitsLiteral FitsList unwanted_lists (λ l j. unwanted_lists_fit l l.wanted j) x k) guards g)
    )
    (gathered FitsTest FitsList test_lists test_lists_fit tests t)

-- ---- what conditions name

module _ {T : Type 0} (same : T → T → Bool) (named : PlannedCondition → List T) (Q : T → Type 0) (fits : (c : PlannedCondition) → FitsCondition c → AllByRecursion Q (named c)) where
  in_test_fits : (t : PlannedTest) → FitsTest t → AllByRecursion Q (in_test named t)
  in_test_fits (Asked c) h = fits c h
  in_test_fits (Listed ls) h = tt

  in_literal_fits : (l : PlannedLiteral) (b : Bool) → FitsLiteral l → AllByRecursion Q (elim b [ true ↦ [] | false ↦ in_test named l.test ])
  in_literal_fits l true h = tt
  in_literal_fits l false h = in_test_fits l.test h

  named_fit : (steps : List PlannedStep) (lists : List PlannedList) (tests : List PlannedTest) (guards : List (List PlannedLiteral))
      → FitsSteps steps → AllByRecursion FitsList lists → AllByRecursion FitsTest tests → AllByRecursion FitsGuardLiterals guards → AllByRecursion Q (named_by same named steps lists tests guards)
  named_fit steps lists tests guards h l t g =
      noted_fit same Q (flat_map (λ x. flat_map (in_literal named) x) guards) _
      (
      noted_fit same Q (flat_map (in_test named) tests) _
      (
      noted_fit same Q (flat_map (λ x. flat_map (λ e. named e.condition) x.entries) lists) _
      (noted_fit same Q (flat_map (λ s. flat_map named s.guard.conditions) steps) [] tt (gathered FitsStep Q (λ s. flat_map named s.guard.conditions) (λ s k. gathered FitsCondition Q named fits s.guard.conditions k.guard.conditions) steps h))
      (gathered FitsList Q (λ x. flat_map (λ e. named e.condition) x.entries) (λ x k. gathered FitsEntry Q (λ e. named e.condition) (λ e j. fits e.condition j) x.entries k) lists l)
      )
      (gathered FitsTest Q (in_test named) in_test_fits tests t)
      )
      (gathered FitsGuardLiterals Q (λ x. flat_map (in_literal named) x) (λ x k. gathered FitsLiteral Q (in_literal named) (λ m j. in_literal_fits m m.wanted j) x k) guards g)

texts_fit : (c : PlannedCondition) → FitsCondition c → AllByRecursion FitsText (texts_in c)
texts_fit Anything h = tt
texts_fit (Destination rs) h = tt
texts_fit (NextHop hs) h = tt
texts_fit (Path ts) h = h.0.1
texts_fit (Communities ss) h = tt
texts_fit (Med n) h = tt
texts_fit (LocalPreference n) h = tt
texts_fit (Origin o) h = tt

sets_fit : (c : PlannedCondition) → FitsCondition c → AllByRecursion (SomeFit FitsMember) (sets_in c)
sets_fit Anything h = tt
sets_fit (Destination rs) h = tt
sets_fit (NextHop hs) h = tt
sets_fit (Path ts) h = tt
sets_fit (Communities ss) h = h.0.1
sets_fit (Med n) h = tt
sets_fit (LocalPreference n) h = tt
sets_fit (Origin o) h = tt

-- the texts of AS paths of steps
pub paths_fit : (steps : List PlannedStep) → FitsSteps steps → AllByRecursion FitsText (parts_of steps).paths
paths_fit steps h =
    let g = guards_fit steps h in
    let t = tests_fit (guards_of steps) g in
    let l = lists_fit steps (guards_of steps) (tests_of (guards_of steps)) h g t in
    named_fit same_text texts_in FitsText texts_fit steps _ _ _ h l t g

-- ---- communities of changes

everything_fits : FitsMember everything
everything_fits = record { plain = refl; high = omega arith; low = omega arith; high_most = omega arith; low_most = omega arith }

plain_alone : (m n : ℕ) → ((m == m || (m == 0 && m == 65535)) && (n == n || (n == 0 && n == 65535))) ≡ true
plain_alone m n = at (m == m) (n == n) (eq-eqb m m refl) (eq-eqb n n refl)
  where
    at : (a b : Bool) → a ≡ true → b ≡ true → ((a || (m == 0 && m == 65535)) && (b || (n == 0 && n == 65535))) ≡ true
    at true true e f = refl
    at true false e f = absurd cc
    at false b e f = absurd cc

alone_fits : (c : Community) → FitsCommunity c → FitsMember (member_alone c)
alone_fits c h = record {
  plain = plain_alone (c.0 / 2 ^ 16) (c.0 % 2 ^ 16);
  high = omega arith;
  low = omega arith;
  high_most = omega (arith, h);
  low_most = omega arith;
}

alone_fit : (cs : List Community) → AllByRecursion FitsCommunity cs → AllByRecursion FitsMember (map member_alone cs)
alone_fit [] h = tt
alone_fit (c ∷ cs) h = (alone_fits c h.0, alone_fit cs h.1)

some_fit : (rs : List RectParts) → AllByRecursion FitsMember rs → AllByRecursion (SomeFit FitsMember) (some_members rs)
some_fit [] h = tt
some_fit (r ∷ rs) h = ((omega arith, h), tt)

replacing_fit : (rs : List RectParts) → AllByRecursion FitsMember rs → AllByRecursion (SomeFit FitsMember) (replacing rs)
replacing_fit [] h = ((omega arith, (everything_fits, tt)), tt)
replacing_fit (r ∷ rs) h = ((omega arith, h), tt)

change_fits : (c : CommChange) (b : Bool) → FitsChange c
    → AllByRecursion (SomeFit FitsMember) (elim b [ true ↦ replacing (map member_alone c.added) | false ↦ some_members c.removed ++ some_members (map member_alone c.added) ])
change_fits c true h = replacing_fit (map member_alone c.added) (alone_fit c.added h.added)
change_fits c false h = both (SomeFit FitsMember) (some_members c.removed) (some_members (map member_alone c.added)) (some_fit c.removed h.removed) (some_fit (map member_alone c.added) (alone_fit c.added h.added))

changed_fit : (o : Option CommChange) → FitsValue FitsChange o → AllByRecursion (SomeFit FitsMember) (changed_sets o)
changed_fit None h = tt
changed_fit (Some c) h = change_fits c (list_any is_all c.removed) h

-- ---- all definitions

pub fits_all : (steps : List PlannedStep) → FitsSteps steps → FitsDefinitions (definitions (parts_of steps))
fits_all steps h =
    let p : PartsList = parts_of steps in
    let g = guards_fit steps h in
    let t = tests_fit (guards_of steps) g in
    let l = lists_fit steps (guards_of steps) (tests_of (guards_of steps)) h g t in
    record {
      paths = paths_fit steps h;
      communities =
          noted_fit same_members (SomeFit FitsMember) (flat_map (λ s. changed_sets s.changes.communities) steps) _ (named_fit same_members sets_in (SomeFit FitsMember) sets_fit steps _ _ _ h l t g)
          (gathered FitsStep (SomeFit FitsMember) (λ s. changed_sets s.changes.communities) (λ s k. changed_fit s.changes.communities k.changes.communities) steps h);
      subroutines =
          both FitsSubroutine (map (λ x. OfList x) p.lists) (map (λ x. Unless x) p.tests ++ map (λ x. AllOf x) p.guards) (made_of FitsSubroutine (λ x. OfList x) p.lists l)
          (both FitsSubroutine (map (λ x. Unless x) p.tests) (map (λ x. AllOf x) p.guards) (made_of FitsSubroutine (λ x. Unless x) p.tests t) (made_of FitsSubroutine (λ x. AllOf x) p.guards g));
    }
