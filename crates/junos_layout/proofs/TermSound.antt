-- The terms of steps and of subroutines are sound: what they ask may stand together and is defined, and their actions are quiet.
use Rattle.std.proofs.Common.{◌≡◌, refl, ap, ◌∙◌, ℕ, ◌/◌, ◌%◌, ◌^◌, Bool, true, false, ◌&&◌, ◌||◌, not, ◌==◌, List, [], ◌∷◌, ◌++◌, map, Option, Some, None}
use Rattle.std.specs.List.{AllByRecursion, IsDistinct, flat_map, list_any}
use Rattle.std.proofs.lemmas.Bool.{eq-eqb}
use Rattle.route_types.specs.Community.{RectParts}
use Rattle.route_types.specs.declared.community.CommChange.{CommChange}
use Rattle.route_types.specs.declared.community.Community.{Community as RouteCommunity}
use Rattle.junos_tree.specs.Terms.{Content}
use Rattle.junos_tree.specs.declared.item.Action.{Action}
use Rattle.junos_tree.specs.declared.item.Action.TheVariants.{Metric, LocalPreference, Origin, NextHop}
use Rattle.junos_tree.specs.declared.item.CommunityVerb.TheVariants.{Add, Delete}
use Rattle.junos_tree.specs.declared.item.Condition.{Condition}
use Rattle.junos_tree.specs.declared.item.Condition.TheVariants.{Policy as CallLine}
use Rattle.junos_tree.specs.declared.item.StatementSort.TheVariants.{Community as CommunitySort}
use Rattle.junos_reader.specs.Facts.{Facts}
use Rattle.junos_reader.specs.Forms.{is_wild}
use Rattle.junos_reader.specs.Statements.{named_by_condition}
use Rattle.junos_plans.specs.Fits.{FitsTest, FitsLiteral, FitsEntry, FitsStep}
use Rattle.junos_plans.specs.declared.changes.PlannedChanges.{PlannedChanges}
use Rattle.junos_plans.specs.declared.condition.PlannedEntry.{PlannedEntry}
use Rattle.junos_plans.specs.declared.condition.PlannedTest.{PlannedTest}
use Rattle.junos_plans.specs.declared.condition.PlannedTest.TheVariants.{Asked, Listed}
use Rattle.junos_plans.specs.declared.step.PlannedLiteral.{PlannedLiteral}
use Rattle.junos_plans.specs.declared.step.PlannedStep.{PlannedStep}
use Rattle.junos_layout.specs.Actions.{set_to, prepend_of, everything, is_all, member_alone, done_with, replaced, community_actions, actions_of}
use Rattle.junos_layout.specs.Options.{Definitions}
use Rattle.junos_layout.specs.Terms.{test_lines, from_of, condition_lines, ends_by, ending, list_terms, literal_term, subroutine_terms, behind_from, step_terms}
use Rattle.junos_layout.specs.Uses.{some_members, replacing, changed_sets, test_conditions, test_calls, literal_conditions, literal_calls, NamesSet, NamesCall, NamesCondition, NamesInSubroutine, NamesInStep, FitsSubroutine}
use Rattle.junos_layout.specs.Writing.{Subroutine, OfList, Unless, AllOf, Writing}
use Rattle.junos_layout.proofs.Walk.{AreDefined}
use Rattle.junos_layout.proofs.TermWalk.{clash, HasOneWay, IsQuiet, SoundTerm}
use Rattle.junos_layout.proofs.FromSound.{all_join, lines_distinct, from_distinct, lines_one_way, from_one_way, KnowsNames, lines_known, call_known, test_known, from_known}

-- ---- subroutines

module _ (facts : Facts) (policy : List ℕ) (name : List ℕ) (defs : Definitions) (w : Writing) (knows : KnowsNames facts name defs w) where
  -- a term that only accepts or rejects
  sound_end : (from : List Condition) (accept : Bool) → AllByRecursion (λ c. AreDefined facts (named_by_condition c)) from → AllByRecursion HasOneWay from → IsDistinct clash from
      → SoundTerm facts policy (ends_by from accept)
  sound_end from accept known one apart = record { known = known; one_way = one; apart = apart; changes = []; accept = accept; are = refl; quiet = tt }

  sound_last : (accept : Bool) → SoundTerm facts policy (ends_by [] accept)
  unfolding IsDistinct
  sound_last accept = sound_end [] accept tt tt tt

  sound_entry : (e : PlannedEntry) → FitsEntry e → NamesCondition name defs w e.condition → SoundTerm facts policy (ends_by (condition_lines w e.condition) e.permit)
  sound_entry e fits named = sound_end (condition_lines w e.condition) e.permit (lines_known facts name defs w knows e.condition named) (lines_one_way w e.condition) (lines_distinct w e.condition fits)

  sound_entries : (es : List PlannedEntry) → AllByRecursion FitsEntry es → AllByRecursion (NamesCondition name defs w) (map (λ e. e.condition) es)
      → AllByRecursion (SoundTerm facts policy) (list_terms w es)
  sound_entries [] fits named = (sound_last false, tt)
  sound_entries (e ∷ es) fits named = (sound_entry e fits.0 named.0, sound_entries es fits.1 named.1)

  test_one_way : (test : PlannedTest) → AllByRecursion HasOneWay (test_lines w test)
  test_one_way (Asked c) = lines_one_way w c
  test_one_way (Listed ls) = (tt, tt)

  test_distinct : (test : PlannedTest) → FitsTest test → IsDistinct clash (test_lines w test)
  unfolding IsDistinct
  test_distinct (Asked c) fits = lines_distinct w c fits
  test_distinct (Listed ls) fits = (tt, tt)

  sound_test : (test : PlannedTest) → FitsTest test → AllByRecursion (NamesCondition name defs w) (test_conditions test) → AllByRecursion (NamesCall name defs w) (test_calls test)
      → SoundTerm facts policy (ends_by (test_lines w test) false)
  sound_test test fits named called = sound_end (test_lines w test) false (test_known facts name defs w knows test named called) (test_one_way test) (test_distinct test fits)

  sound_call : (s : Subroutine) → NamesCall name defs w s → SoundTerm facts policy (ends_by (CallLine (w.subroutine s ∷ []) ∷ []) false)
  unfolding IsDistinct
  sound_call s called = sound_end (CallLine (w.subroutine s ∷ []) ∷ []) false (call_known facts name defs w knows s called, tt) (tt, tt) (tt, tt)

  sound_literal : (test : PlannedTest) (wanted : Bool) → FitsTest test → AllByRecursion (NamesCondition name defs w) (literal_conditions (record { test = test; wanted = wanted }))
      → AllByRecursion (NamesCall name defs w) (literal_calls (record { test = test; wanted = wanted }))
      → SoundTerm facts policy (literal_term w (record { test = test; wanted = wanted }))
  sound_literal test true fits named called = sound_call (Unless test) called.0
  sound_literal test false fits named called = sound_test test fits named called

  front : {A : Type 0} (P : A → Type 0) (xs ys : List A) → AllByRecursion P (xs ++ ys) → AllByRecursion P xs × AllByRecursion P ys
  front P [] ys h = (tt, h)
  front P (x ∷ xs) ys h = let more = front P xs ys h.1 in ((h.0, more.0), more.1)

  sound_literals : (ls : List PlannedLiteral) → AllByRecursion FitsLiteral ls → AllByRecursion (NamesCondition name defs w) (flat_map literal_conditions ls)
      → AllByRecursion (NamesCall name defs w) (flat_map literal_calls ls)
      → AllByRecursion (SoundTerm facts policy) (map (literal_term w) ls ++ ends_by [] true ∷ [])
  sound_literals [] fits named called = (sound_last true, tt)
  sound_literals (l ∷ ls) fits named called =
      let conditions = front (NamesCondition name defs w) (literal_conditions l) (flat_map literal_conditions ls) named in
      let calls = front (NamesCall name defs w) (literal_calls l) (flat_map literal_calls ls) called in
      (sound_literal l.test l.wanted fits.0 conditions.0 calls.0, sound_literals ls fits.1 conditions.1 calls.1)

  pub subroutine_sound : (s : Subroutine) → FitsSubroutine s → NamesInSubroutine name defs w s → AllByRecursion (SoundTerm facts policy) (subroutine_terms w s)
  subroutine_sound (OfList l) fits named = sound_entries l.entries fits named.conditions
  subroutine_sound (Unless test) fits named = (sound_test test fits named.conditions named.calls, (sound_last true, tt))
  subroutine_sound (AllOf ls) fits named = sound_literals ls fits named.conditions named.calls

  -- ---- actions

  -- communities of single members may be set and added
  abbrev KnowsSingle : Type 0
  KnowsSingle = (members : List RectParts) → NamesSet name defs w members → list_any is_wild members ≡ false → facts.not_plain (w.community members) ≡ false

  module _ (single : KnowsSingle) (uncalled : facts.called policy ≡ false) where
    abbrev Quiet : List Action → Type 0
    Quiet xs = AllByRecursion (IsQuiet facts policy) xs

    quiet_set : {A : Type 0} (make : A → Action) (o : Option A) → ((x : A) → IsQuiet facts policy (make x)) → Quiet (set_to make o)
    quiet_set make None each = tt
    quiet_set make (Some x) each = (each x, tt)

    quiet_prepend : (ns : List ℕ) → Quiet (prepend_of ns)
    quiet_prepend [] = tt
    quiet_prepend (n ∷ ns) = (record { known = refl; flows = refl; plain = refl; uncalled = uncalled; stays = refl }, tt)

    none_wild : (cs : List RouteCommunity) → list_any is_wild (map member_alone cs) ≡ false
    none_wild [] = refl
    none_wild (c ∷ cs) =
        ap (λ (b : Bool). not (b && (c.0 % 2 ^ 16 == c.0 % 2 ^ 16)) || list_any is_wild (map member_alone cs)) (eq-eqb (c.0 / 2 ^ 16) (c.0 / 2 ^ 16) refl)
        ∙ ap (λ (b : Bool). not b || list_any is_wild (map member_alone cs)) (eq-eqb (c.0 % 2 ^ 16) (c.0 % 2 ^ 16) refl)
        ∙ none_wild cs

    set_known : (members : List RectParts) → NamesSet name defs w members → (not (facts.defined CommunitySort (w.community members)) || false) ≡ false
    set_known members h = ap (λ (b : Bool). not b || false) (knows.sets members h)

    quiet_delete : (rs : List RectParts) → AllByRecursion (NamesSet name defs w) (some_members rs) → Quiet (done_with w Delete rs)
    quiet_delete [] h = tt
    quiet_delete (r ∷ rs) h = (record { known = set_known (r ∷ rs) h.0; flows = refl; plain = refl; uncalled = uncalled; stays = refl }, tt)

    quiet_add : (rs : List RectParts) → list_any is_wild rs ≡ false → AllByRecursion (NamesSet name defs w) (some_members rs) → Quiet (done_with w Add rs)
    quiet_add [] e h = tt
    quiet_add (r ∷ rs) e h = (record { known = set_known (r ∷ rs) h.0; flows = refl; plain = single (r ∷ rs) h.0 e; uncalled = uncalled; stays = refl }, tt)

    quiet_replaced : (rs : List RectParts) → list_any is_wild rs ≡ false → AllByRecursion (NamesSet name defs w) (replacing rs) → Quiet (replaced w rs)
    quiet_replaced [] e h = (record { known = set_known (everything ∷ []) h.0; flows = refl; plain = refl; uncalled = uncalled; stays = refl }, tt)
    quiet_replaced (r ∷ rs) e h = (record { known = set_known (r ∷ rs) h.0; flows = refl; plain = single (r ∷ rs) h.0 e; uncalled = uncalled; stays = refl }, tt)

    quiet_communities : (o : Option CommChange) → AllByRecursion (NamesSet name defs w) (changed_sets o) → Quiet (community_actions w o)
    quiet_communities None h = tt
    quiet_communities (Some c) h = one (list_any is_all c.removed) h where
      one : (b : Bool) → AllByRecursion (NamesSet name defs w) (elim b [ true ↦ replacing (map member_alone c.added) | false ↦ some_members c.removed ++ some_members (map member_alone c.added) ])
          → Quiet (elim b [ true ↦ replaced w (map member_alone c.added) | false ↦ done_with w Delete c.removed ++ done_with w Add (map member_alone c.added) ])
      one true k = quiet_replaced (map member_alone c.added) (none_wild c.added) k
      one false k =
          let parts = front (NamesSet name defs w) (some_members c.removed) (some_members (map member_alone c.added)) k in
          all_join (IsQuiet facts policy) (done_with w Delete c.removed) (done_with w Add (map member_alone c.added)) (quiet_delete c.removed parts.0) (quiet_add (map member_alone c.added) (none_wild c.added) parts.1)

    quiet_actions : (p : PlannedChanges) → AllByRecursion (NamesSet name defs w) (changed_sets p.communities) → Quiet (actions_of w p)
    quiet_actions p h =
        let Q = IsQuiet facts policy in
        all_join Q (set_to LocalPreference p.local_preference) _ (quiet_set LocalPreference p.local_preference (λ x. record { known = refl; flows = refl; plain = refl; uncalled = uncalled; stays = refl }))
        (all_join Q (set_to Metric p.med) _ (quiet_set Metric p.med (λ x. record { known = refl; flows = refl; plain = refl; uncalled = uncalled; stays = refl }))
        (all_join Q (set_to Origin p.origin) _ (quiet_set Origin p.origin (λ x. record { known = refl; flows = refl; plain = refl; uncalled = uncalled; stays = refl }))
        (all_join Q (set_to NextHop p.next_hop) _ (quiet_set NextHop p.next_hop (λ x. record { known = refl; flows = refl; plain = refl; uncalled = uncalled; stays = refl }))
        (all_join Q (prepend_of p.prepended) (community_actions w p.communities) (quiet_prepend p.prepended) (quiet_communities p.communities h)))))

    -- ---- steps

    sound_step : (s : PlannedStep) → FitsStep s → NamesInStep name defs w s
        → SoundTerm facts policy (record { conditions = from_of w s.guard; actions = actions_of w s.changes ++ ending s.accept ∷ [] })
    sound_step s fits named = record {
      known = from_known facts name defs w knows s.guard named.conditions named.calls;
      one_way = from_one_way w s.guard;
      apart = from_distinct w s.guard fits.guard;
      changes = actions_of w s.changes;
      accept = s.accept;
      are = refl;
      quiet = quiet_actions s.changes named.changes;
    }

    behind_sound : (from : List Condition) (rest : List Content) → AllByRecursion (SoundTerm facts policy) rest → AllByRecursion (SoundTerm facts policy) (behind_from from rest)
    behind_sound [] rest h = tt
    behind_sound (c ∷ cs) rest h = h

    pub steps_sound : (ss : List PlannedStep) → AllByRecursion FitsStep ss → AllByRecursion (NamesInStep name defs w) ss → AllByRecursion (SoundTerm facts policy) (step_terms w ss)
    unfolding step_terms
    steps_sound [] fits named = (sound_last false, tt)
    steps_sound (s ∷ ss) fits named = (sound_step s fits.0 named.0, behind_sound (from_of w s.guard) (step_terms w ss) (steps_sound ss fits.1 named.1))
