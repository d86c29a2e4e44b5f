-- The definitions of steps that fit fit.
use Rattle.std.proofs.Common.{◌≡◌, refl, ℕ, ◌/◌, ◌%◌, ◌^◌, Bool, true, false, List, [], ◌∷◌, ◌++◌, map, Option, Some, None, arith}
use Rattle.std.specs.List.{list_any, flat_map, AllByRecursion}
use Rattle.std.proofs.lemmas.Bool.{eq-eqb}
use Rattle.route_types.specs.Community.{RectParts}
use Rattle.route_types.specs.declared.community.CommChange.{CommChange}
use Rattle.route_types.specs.declared.community.Community.{Community as RouteCommunity}
use Rattle.policy_core.specs.Sayable.{is_plain}
use Rattle.junos_plans.specs.Fits.{SomeFit, FitsText, FitsMember, FitsCommunity, FitsValue, FitsChange, FitsCondition, FitsEntry, FitsList, FitsTest, FitsLiteral, FitsStep, FitsSteps}
use Rattle.junos_plans.specs.declared.condition.PlannedCondition.{PlannedCondition}
use Rattle.junos_plans.specs.declared.condition.PlannedCondition.TheVariants.{Anything, Destination, NextHop, Path, Communities, Med, LocalPreference, Origin}
use Rattle.junos_plans.specs.declared.condition.PlannedEntry.{PlannedEntry}
use Rattle.junos_plans.specs.declared.condition.PlannedList.{PlannedList}
use Rattle.junos_plans.specs.declared.condition.PlannedTest.{PlannedTest}
use Rattle.junos_plans.specs.declared.condition.PlannedTest.TheVariants.{Asked, Listed}
use Rattle.junos_plans.specs.declared.step.PlannedLiteral.{PlannedLiteral}
use Rattle.junos_plans.specs.declared.step.PlannedStep.{PlannedStep}
use Rattle.junos_layout.specs.Actions.{everything, is_all, member_alone}
use Rattle.junos_layout.specs.Sharing.{literal_subroutines, with_calls, step_subroutines, step_conditions, step_texts, step_sets, Tells, definitions_of}
use Rattle.junos_layout.specs.Uses.{texts_in, sets_in, test_conditions, test_calls, literal_conditions, subroutine_conditions, one_call, guard_calls, some_members, replacing, changed_sets, FitsSubroutine, FitsDefinitions}
use Rattle.junos_layout.specs.Writing.{Subroutine, OfList, Unless, AllOf}
use Rattle.junos_layout.proofs.FromSound.{all_join}
use Rattle.junos_layout.proofs.Sharing.{all_of, each, kept_noted}

-- ---- conditions

-- what conditions that fit name
texts_fit : (c : PlannedCondition) → FitsCondition c → AllByRecursion FitsText (texts_in c)
texts_fit Anything h = tt
texts_fit (Destination xs) h = tt
texts_fit (NextHop hops) h = tt
texts_fit (Path texts) h = h.0.1
texts_fit (Communities sets) h = tt
texts_fit (Med n) h = tt
texts_fit (LocalPreference n) h = tt
texts_fit (Origin o) h = tt

sets_fit : (c : PlannedCondition) → FitsCondition c → AllByRecursion (SomeFit FitsMember) (sets_in c)
sets_fit Anything h = tt
sets_fit (Destination xs) h = tt
sets_fit (NextHop hops) h = tt
sets_fit (Path texts) h = tt
sets_fit (Communities sets) h = h.0.1
sets_fit (Med n) h = tt
sets_fit (LocalPreference n) h = tt
sets_fit (Origin o) h = tt

-- ---- subroutines

entries_fit : (es : List PlannedEntry) → AllByRecursion FitsEntry es → AllByRecursion FitsCondition (map (λ e. e.condition) es)
entries_fit [] h = tt
entries_fit (e ∷ es) h = (h.0, entries_fit es h.1)

test_fits : (test : PlannedTest) → FitsTest test → AllByRecursion FitsCondition (test_conditions test)
test_fits (Asked c) h = (h, tt)
test_fits (Listed ls) h = tt

literal_fits : (test : PlannedTest) (wanted : Bool) → FitsTest test → AllByRecursion FitsCondition (literal_conditions (record { test = test; wanted = wanted }))
literal_fits test true h = tt
literal_fits test false h = test_fits test h

conditions_fit : (s : Subroutine) → FitsSubroutine s → AllByRecursion FitsCondition (subroutine_conditions s)
conditions_fit (OfList l) h = entries_fit l.entries h
conditions_fit (Unless test) h = test_fits test h
conditions_fit (AllOf ls) h = all_of FitsCondition literal_conditions ls (each FitsLiteral (λ l. AllByRecursion FitsCondition (literal_conditions l)) (λ l k. literal_fits l.test l.wanted k) ls h)

lists_fit : (ls : List PlannedList) → AllByRecursion FitsList ls → AllByRecursion FitsSubroutine (map (λ l. OfList l) ls)
lists_fit [] h = tt
lists_fit (l ∷ ls) h = (h.0, lists_fit ls h.1)

test_calls_fit : (test : PlannedTest) → FitsTest test → AllByRecursion FitsSubroutine (test_calls test)
test_calls_fit (Asked c) h = tt
test_calls_fit (Listed ls) h = lists_fit ls h.1

literal_calls_fit : (test : PlannedTest) (wanted : Bool) → FitsTest test → AllByRecursion FitsSubroutine (literal_subroutines (record { test = test; wanted = wanted }))
literal_calls_fit test true h = (h, test_calls_fit test h)
literal_calls_fit test false h = test_calls_fit test h

with_calls_fit : (s : Subroutine) → FitsSubroutine s → AllByRecursion FitsSubroutine (with_calls s)
with_calls_fit (OfList l) h = (h, tt)
with_calls_fit (Unless test) h = (h, test_calls_fit test h)
with_calls_fit (AllOf ls) h = (h, all_of FitsSubroutine literal_subroutines ls (each FitsLiteral (λ l. AllByRecursion FitsSubroutine (literal_subroutines l)) (λ l k. literal_calls_fit l.test l.wanted k) ls h))

one_call_fits : (test : PlannedTest) (wanted : Bool) → FitsTest test → AllByRecursion FitsSubroutine (one_call test wanted)
one_call_fits (Listed ls) true h = lists_fit ls h.1
one_call_fits (Listed ls) false h = ((h, tt), tt)
one_call_fits (Asked c) wanted h = ((h, tt), tt)

guard_calls_fit : (ls : List PlannedLiteral) → AllByRecursion FitsLiteral ls → AllByRecursion FitsSubroutine (guard_calls ls)
guard_calls_fit [] h = tt
guard_calls_fit (l ∷ []) h = one_call_fits l.test l.wanted h.0
guard_calls_fit (l ∷ m ∷ ls) h = (h, tt)

-- ---- changes

everything_fits : FitsMember everything
everything_fits = record { plain = refl; high = omega arith; low = omega arith; high_most = omega arith; low_most = omega arith }

alone_plain : (c : RouteCommunity) → is_plain (member_alone c) ≡ true
alone_plain c = plain (c.0 / 2 ^ 16) (c.0 % 2 ^ 16)
  where
    plain : (h l : ℕ) → is_plain (record { high_least = h; high_most = h; low_least = l; low_most = l }) ≡ true
    plain h l = rw (eq-eqb h h refl, eq-eqb l l refl) refl

member_fits : (c : RouteCommunity) → FitsCommunity c → FitsMember (member_alone c)
member_fits c h = record { plain = alone_plain c; high = omega arith; low = omega arith; high_most = omega (arith, h); low_most = omega arith }

members_fit : (cs : List RouteCommunity) → AllByRecursion FitsCommunity cs → AllByRecursion FitsMember (map member_alone cs)
members_fit [] h = tt
members_fit (c ∷ cs) h = (member_fits c h.0, members_fit cs h.1)

some_fit : (rs : List RectParts) → AllByRecursion FitsMember rs → AllByRecursion (SomeFit FitsMember) (some_members rs)
some_fit [] h = tt
some_fit (r ∷ rs) h = ((omega arith, h), tt)

replacing_fits : (rs : List RectParts) → AllByRecursion FitsMember rs → AllByRecursion (SomeFit FitsMember) (replacing rs)
replacing_fits [] h = ((omega arith, (everything_fits, tt)), tt)
replacing_fits (r ∷ rs) h = ((omega arith, h), tt)

changes_fit : (o : Option CommChange) → FitsValue FitsChange o → AllByRecursion (SomeFit FitsMember) (changed_sets o)
changes_fit None h = tt
changes_fit (Some c) h = one (list_any is_all c.removed)
  where
    one : (b : Bool) → AllByRecursion (SomeFit FitsMember) (elim b [ true ↦ replacing (map member_alone c.added) | false ↦ some_members c.removed ++ some_members (map member_alone c.added) ])
    one true = replacing_fits (map member_alone c.added) (members_fit c.added h.added)
    one false = all_join (SomeFit FitsMember) (some_members c.removed) (some_members (map member_alone c.added)) (some_fit c.removed h.removed) (some_fit (map member_alone c.added) (members_fit c.added h.added))

-- ---- steps

subroutines_fit : (s : PlannedStep) → FitsStep s → AllByRecursion FitsSubroutine (step_subroutines s)
subroutines_fit s h =
    all_of FitsSubroutine with_calls (guard_calls s.guard.literals)
    (each FitsSubroutine (λ t. AllByRecursion FitsSubroutine (with_calls t)) with_calls_fit (guard_calls s.guard.literals) (guard_calls_fit s.guard.literals h.guard.literals))

step_conditions_fit : (s : PlannedStep) → FitsStep s → AllByRecursion FitsCondition (step_conditions s)
step_conditions_fit s h =
    all_join FitsCondition s.guard.conditions (flat_map subroutine_conditions (step_subroutines s)) h.guard.conditions
    (all_of FitsCondition subroutine_conditions (step_subroutines s)
    (each FitsSubroutine (λ t. AllByRecursion FitsCondition (subroutine_conditions t)) conditions_fit (step_subroutines s) (subroutines_fit s h)))

step_texts_fit : (s : PlannedStep) → FitsStep s → AllByRecursion FitsText (step_texts s)
step_texts_fit s h = all_of FitsText texts_in (step_conditions s) (each FitsCondition (λ c. AllByRecursion FitsText (texts_in c)) texts_fit (step_conditions s) (step_conditions_fit s h))

step_sets_fit : (s : PlannedStep) → FitsStep s → AllByRecursion (SomeFit FitsMember) (step_sets s)
step_sets_fit s h =
    all_join (SomeFit FitsMember) (flat_map sets_in (step_conditions s)) (changed_sets s.changes.communities)
    (all_of (SomeFit FitsMember) sets_in (step_conditions s) (each FitsCondition (λ c. AllByRecursion (SomeFit FitsMember) (sets_in c)) sets_fit (step_conditions s) (step_conditions_fit s h)))
    (changes_fit s.changes.communities h.changes.communities)

pub definitions_fit : (tells : Tells) (steps : List PlannedStep) → FitsSteps steps → FitsDefinitions (definitions_of tells steps)
definitions_fit tells steps h = record {
  paths = kept_noted FitsText tells.texts (flat_map step_texts steps) [] (all_of FitsText step_texts steps (each FitsStep (λ s. AllByRecursion FitsText (step_texts s)) step_texts_fit steps h)) tt;
  communities =
      kept_noted (SomeFit FitsMember) tells.rects (flat_map step_sets steps) []
      (all_of (SomeFit FitsMember) step_sets steps (each FitsStep (λ s. AllByRecursion (SomeFit FitsMember) (step_sets s)) step_sets_fit steps h)) tt;
  subroutines =
      kept_noted FitsSubroutine tells.subroutines (flat_map step_subroutines steps) []
      (all_of FitsSubroutine step_subroutines steps (each FitsStep (λ s. AllByRecursion FitsSubroutine (step_subroutines s)) subroutines_fit steps h)) tt;
}
