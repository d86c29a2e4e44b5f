-- The conditions and actions of plans that fit may be written, where each name is that of a definition.
use Rattle.std.proofs.Common.{◌≡◌, refl, sym, subst, ℕ, ◌<◌, ◌≤◌, Bool, true, false, List, [], ◌∷◌, ◌++◌, length, map, arith, Option, Some, None}
use Rattle.std.specs.List.{list_any, flat_map, AllByRecursion}
use Rattle.std.proofs.lemmas.List.{length-map, length-reverse}
use Rattle.path_patterns.proofs.Lists.{all_append}
use Rattle.policy_core.specs.Sayable.{hop_in_range}
use Rattle.route_types.specs.Community.{RectParts}
use Rattle.route_types.specs.declared.community.CommChange.{CommChange}
use Rattle.junos_tree.specs.declared.item.Action.{Action}
use Rattle.junos_tree.specs.declared.item.Action.TheVariants.{Metric, LocalPreference, Origin, NextHop}
use Rattle.junos_tree.specs.declared.item.CommunityVerb.{CommunityVerb}
use Rattle.junos_tree.specs.declared.item.CommunityVerb.TheVariants.{Delete, Add}
use Rattle.junos_tree.specs.declared.item.Condition.TheVariants.{RouteFilter}
use Rattle.junos_text.specs.Written.{FitsName, FitNames, FitsCondition as FitsWrittenCondition, FitsAction, FitsNumber as FitsWrittenNumber, FitsAddress as FitsWrittenAddress}
use Rattle.junos_plans.specs.Fits.{FitsNumber, FitsRange, FitsAddress, FitsValue, FitsCondition, FitsTest, FitsChanges}
use Rattle.junos_plans.specs.declared.changes.PlannedChanges.{PlannedChanges}
use Rattle.junos_plans.specs.declared.condition.PlannedCondition.{PlannedCondition}
use Rattle.junos_plans.specs.declared.condition.PlannedCondition.TheVariants.{Anything, Destination, NextHop as OnNextHop, Path, Communities, Med, LocalPreference as OnPreference, Origin as OnOrigin}
use Rattle.junos_plans.specs.declared.condition.PlannedList.{PlannedList}
use Rattle.junos_plans.specs.declared.condition.PlannedTest.{PlannedTest}
use Rattle.junos_plans.specs.declared.condition.PlannedTest.TheVariants.{Asked, Listed}
use Rattle.junos_plans.specs.declared.step.PlannedLiteral.{PlannedLiteral}
use Rattle.junos_plans.specs.declared.step.PlannedGuard.{PlannedGuard}
use Rattle.junos_plans.specs.declared.step.PlannedStep.{PlannedStep}
use Rattle.junos_layout.specs.Actions.{set_to, prepend_of, everything, is_all, member_alone, done_with, replaced, community_actions, actions_of}
use Rattle.junos_layout.specs.Options.{Definitions}
use Rattle.junos_layout.specs.Terms.{condition_lines, call_of, test_lines, one_literal, literal_lines, from_of}
use Rattle.junos_layout.specs.Uses.{HasFew, NamesPath, NamesSet, NamesCall, NamesCondition, test_conditions, test_calls, one_call, guard_calls, some_members, replacing, changed_sets}
use Rattle.junos_layout.specs.Writing.{Subroutine, OfList, AllOf, Writing}
use Rattle.junos_layout.proofs.Names.{within}
use Rattle.junos_writable.proofs.NameLaws.{own_fits}
use Rattle.junos_writable.proofs.ValueLaws.{all_each, all_map, all_reverse, some_each, address_written, hop_written, range_written}

pub number_written : (n : ℕ) → FitsNumber n → FitsWrittenNumber n
number_written n h = omega (arith, h)

-- both parts of what holds of all of two lists
pub all_front : {A : Type 0} (P : A → Type 0) (xs ys : List A) → AllByRecursion P (xs ++ ys) → AllByRecursion P xs × AllByRecursion P ys
all_front P [] ys h = (tt, h)
all_front P (x ∷ xs) ys h = let more = all_front P xs ys h.1 in ((h.0, more.0), more.1)

-- where the definitions of a plan can be counted, its policy's name may name a policy, and what is used is named by its definition
module _ (name : List ℕ) (defs : Definitions) (w : Writing) (steps : List PlannedStep) (fits_name : FitsName name) (few : HasFew defs w steps) where
  pub path_named : (text : List ℕ) → NamesPath name defs w text → FitsName (w.path text)
  path_named text (n, there, is) =
      let place : n < length defs.paths = within defs.paths n text there in
      subst FitsName (sym is) (own_fits name 97 fits_name refl refl refl n (omega (arith, place, few.paths)))

  pub set_named : (members : List RectParts) → NamesSet name defs w members → FitsName (w.community members)
  set_named members (n, there, is) =
      let place : n < length defs.communities = within defs.communities n members there in
      subst FitsName (sym is) (own_fits name 99 fits_name refl refl refl n (omega (arith, place, few.communities)))

  pub call_named : (s : Subroutine) → NamesCall name defs w s → FitsName (w.subroutine s)
  call_named s (n, there, is) =
      let place : n < length defs.subroutines = within defs.subroutines n s there in
      subst FitsName (sym is) (own_fits name 115 fits_name refl refl refl n (omega (arith, place, few.subroutines)))

  -- ---- conditions

  some_mapped : {A : Type 0} (P : A → Type 0) (f : A → List ℕ) → ((x : A) → P x → FitsName (f x)) → (xs : List A) → 1 ≤ length xs → AllByRecursion P xs → FitNames (map f xs)
  some_mapped P f g xs some h = (subst (λ (n : ℕ). 1 ≤ n) (sym (length-map xs f)) some, all_map P FitsName f g xs h)

  pub lines_fit : (c : PlannedCondition) → FitsCondition c → NamesCondition name defs w c → AllByRecursion FitsWrittenCondition (condition_lines w c)
  lines_fit Anything h named = tt
  lines_fit (Destination xs) h named = all_map FitsRange FitsWrittenCondition (λ x. RouteFilter x) range_written xs h.0.1
  lines_fit (OnNextHop hops) h named = (some_each FitsAddress FitsWrittenAddress address_written hops h.0, tt)
  lines_fit (Path texts) h named = (some_mapped (NamesPath name defs w) w.path path_named texts h.0.0 named.0, tt)
  lines_fit (Communities sets) h named = (some_mapped (NamesSet name defs w) w.community set_named sets h.0.0 named.1, tt)
  lines_fit (Med n) h named = (number_written n h.0, tt)
  lines_fit (OnPreference n) h named = (number_written n h.0, tt)
  lines_fit (OnOrigin o) h named = (tt, tt)

  all_lines_fit : (cs : List PlannedCondition) → AllByRecursion FitsCondition cs → AllByRecursion (NamesCondition name defs w) cs → AllByRecursion FitsWrittenCondition (flat_map (condition_lines w) cs)
  all_lines_fit [] h named = tt
  all_lines_fit (c ∷ cs) h named = all_append FitsWrittenCondition (condition_lines w c) (flat_map (condition_lines w) cs) (lines_fit c h.0 named.0) (all_lines_fit cs h.1 named.1)

  -- ---- calls

  lists_named : (ls : List PlannedList) → AllByRecursion (NamesCall name defs w) (map (λ l. OfList l) ls) → AllByRecursion FitsName (map (λ l. w.subroutine (OfList l)) ls)
  lists_named [] h = tt
  lists_named (l ∷ ls) h = (call_named (OfList l) h.0, lists_named ls h.1)

  pub lists_fit : (ls : List PlannedList) → 1 ≤ length ls → AllByRecursion (NamesCall name defs w) (map (λ l. OfList l) ls) → FitsWrittenCondition (call_of w ls)
  lists_fit ls some h = (subst (λ (n : ℕ). 1 ≤ n) (sym (length-map ls (λ l. w.subroutine (OfList l)))) some, lists_named ls h)

  pub test_fits : (test : PlannedTest) → FitsTest test → AllByRecursion (NamesCondition name defs w) (test_conditions test) → AllByRecursion (NamesCall name defs w) (test_calls test)
      → AllByRecursion FitsWrittenCondition (test_lines w test)
  test_fits (Asked c) h named called = lines_fit c h named.0
  test_fits (Listed ls) h named called = (lists_fit ls h.0 called, tt)

  one_fits : (test : PlannedTest) (wanted : Bool) → FitsTest test → AllByRecursion (NamesCall name defs w) (one_call test wanted) → AllByRecursion FitsWrittenCondition (one_literal w test wanted)
  one_fits (Listed ls) true h called = (lists_fit ls h.0 called, tt)
  one_fits (Listed ls) false h called = ((omega arith, (call_named (AllOf (record { test = Listed ls; wanted = false } ∷ [])) called.0, tt)), tt)
  one_fits (Asked c) wanted h called = ((omega arith, (call_named (AllOf (record { test = Asked c; wanted = wanted } ∷ [])) called.0, tt)), tt)

  calls_fit : (ls : List PlannedLiteral) → AllByRecursion (λ l. FitsTest l.test) ls → AllByRecursion (NamesCall name defs w) (guard_calls ls) → AllByRecursion FitsWrittenCondition (literal_lines w ls)
  calls_fit [] h called = tt
  calls_fit (l ∷ []) h called = one_fits l.test l.wanted h.0 called
  calls_fit (l ∷ m ∷ ls) h called = ((omega arith, (call_named (AllOf (l ∷ m ∷ ls)) called.0, tt)), tt)

  pub from_fits : (g : PlannedGuard) → AllByRecursion FitsCondition g.conditions → AllByRecursion (λ l. FitsTest l.test) g.literals → AllByRecursion (NamesCondition name defs w) g.conditions
      → AllByRecursion (NamesCall name defs w) (guard_calls g.literals) → AllByRecursion FitsWrittenCondition (from_of w g)
  from_fits g h k named called =
      all_append FitsWrittenCondition (flat_map (condition_lines w) g.conditions) (literal_lines w g.literals) (all_lines_fit g.conditions h named) (calls_fit g.literals k called)

  -- ---- actions

  set_fits : {A : Type 0} (P : A → Type 0) (make : A → Action) → ((x : A) → P x → FitsAction (make x)) → (o : Option A) → FitsValue P o → AllByRecursion FitsAction (set_to make o)
  set_fits P make each None h = tt
  set_fits P make each (Some x) h = (each x h, tt)

  -- an action that may always be written
  any_fits : {A : Type 0} (make : A → Action) → ((x : A) → FitsAction (make x)) → (o : Option A) → AllByRecursion FitsAction (set_to make o)
  any_fits make each None = tt
  any_fits make each (Some x) = (each x, tt)

  prepend_fits : (ns : List ℕ) → AllByRecursion FitsNumber ns → AllByRecursion FitsAction (prepend_of ns)
  prepend_fits [] h = tt
  prepend_fits (n ∷ ns) h =
      let some : 1 ≤ length (n ∷ ns) = omega arith in
      ((subst (λ (k : ℕ). 1 ≤ k) (sym (length-reverse (n ∷ ns))) some, all_reverse FitsWrittenNumber (n ∷ ns) (all_each FitsNumber FitsWrittenNumber number_written (n ∷ ns) h)), tt)

  done_fits : (verb : CommunityVerb) (rs : List RectParts) → AllByRecursion (NamesSet name defs w) (some_members rs) → AllByRecursion FitsAction (done_with w verb rs)
  done_fits verb [] h = tt
  done_fits verb (r ∷ rs) h = (set_named (r ∷ rs) h.0, tt)

  replaced_fits : (rs : List RectParts) → AllByRecursion (NamesSet name defs w) (replacing rs) → AllByRecursion FitsAction (replaced w rs)
  replaced_fits [] h = (set_named (everything ∷ []) h.0, tt)
  replaced_fits (r ∷ rs) h = (set_named (r ∷ rs) h.0, tt)

  communities_fit : (o : Option CommChange) → AllByRecursion (NamesSet name defs w) (changed_sets o) → AllByRecursion FitsAction (community_actions w o)
  communities_fit None h = tt
  communities_fit (Some c) h = one (list_any is_all c.removed) h where
    one : (b : Bool) → AllByRecursion (NamesSet name defs w) (elim b [ true ↦ replacing (map member_alone c.added) | false ↦ some_members c.removed ++ some_members (map member_alone c.added) ])
        → AllByRecursion FitsAction (elim b [ true ↦ replaced w (map member_alone c.added) | false ↦ done_with w Delete c.removed ++ done_with w Add (map member_alone c.added) ])
    one true k = replaced_fits (map member_alone c.added) k
    one false k =
        let parts = all_front (NamesSet name defs w) (some_members c.removed) (some_members (map member_alone c.added)) k in
        all_append FitsAction (done_with w Delete c.removed) (done_with w Add (map member_alone c.added)) (done_fits Delete c.removed parts.0) (done_fits Add (map member_alone c.added) parts.1)

  pub actions_fit : (p : PlannedChanges) → FitsChanges p → AllByRecursion (NamesSet name defs w) (changed_sets p.communities) → AllByRecursion FitsAction (actions_of w p)
  actions_fit p h named =
      all_append FitsAction (set_to LocalPreference p.local_preference) _ (set_fits FitsNumber LocalPreference number_written p.local_preference h.local_preference)
      (all_append FitsAction (set_to Metric p.med) _ (set_fits FitsNumber Metric number_written p.med h.med)
      (all_append FitsAction (set_to Origin p.origin) _ (any_fits Origin (λ x. tt) p.origin)
      (all_append FitsAction (set_to NextHop p.next_hop) _ (set_fits (λ k. hop_in_range k ≡ true) NextHop hop_written p.next_hop h.next_hop)
      (all_append FitsAction (prepend_of p.prepended) (community_actions w p.communities) (prepend_fits p.prepended h.prepended) (communities_fit p.communities named)))))
