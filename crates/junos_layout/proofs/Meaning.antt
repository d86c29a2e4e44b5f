-- The definitions of a plan mean what the plan says.
use Rattle.std.proofs.Common.{◌≡◌, refl, sym, ap, ◌∙◌, ℕ, suc, Bool, true, false, ◌&&◌, ◌||◌, not, List, [], ◌∷◌, ◌++◌, map, Option, Some, None}
use Rattle.std.specs.Bool.{beq}
use Rattle.std.specs.List.{list_any, list_all, flat_map, AllByRecursion}
use Rattle.route_types.specs.Community.{RectParts}
use Rattle.route_types.specs.Route.{RouteParts, InRange}
use Rattle.core_nodes.specs.Outcome.{ended}
use Rattle.policy_calls.specs.Depth.{most_calls}
use Rattle.junos_tree.specs.Terms.{Content, nothing}
use Rattle.junos_tree.specs.declared.item.Action.{Action}
use Rattle.junos_tree.specs.declared.item.Action.TheVariants.{Metric, LocalPreference, Origin as SetsOrigin, NextHop as SetsHop}
use Rattle.junos_tree.specs.declared.item.CommunityVerb.{CommunityVerb}
use Rattle.junos_tree.specs.declared.item.CommunityVerb.TheVariants.{Add, Delete}
use Rattle.junos_tree.specs.declared.item.Condition.{Condition}
use Rattle.junos_tree.specs.declared.item.Condition.TheVariants.{Policy as CallLine}
use Rattle.junos_tree.specs.declared.item.Flow.{Flow}
use Rattle.junos_tree.specs.declared.item.Flow.TheVariants.{Accept, Reject}
use Rattle.junos_tree.specs.declared.item.JunosForm.{JunosForm}
use Rattle.junos_meaning.specs.Conditions.{from_holds}
use Rattle.junos_meaning.specs.Meaning.{acted_by, flow_in, flow_of, answer_behind, terms_accept, accepts, Fate, Ends, fate_behind, run_terms, then_on, junos_meaning}
use Rattle.route_types.specs.declared.community.CommChange.{CommChange}
use Rattle.junos_plans.specs.Changes.{changed_as}
use Rattle.junos_plans.specs.Conditions.{condition_holds, entries_accept, test_holds}
use Rattle.junos_plans.specs.Fits.{FitsEntry, FitsTest, FitsLiteral, FitsStep, FitsSteps}
use Rattle.junos_plans.specs.Plans.{literal_says, guard_says, planned_outcome}
use Rattle.junos_plans.specs.declared.changes.PlannedChanges.{PlannedChanges}
use Rattle.junos_plans.specs.declared.condition.PlannedCondition.{PlannedCondition}
use Rattle.junos_plans.specs.declared.condition.PlannedCondition.TheVariants.{Anything, Destination, NextHop, Path, Communities, Med, LocalPreference as AsksPreference, Origin}
use Rattle.junos_plans.specs.declared.condition.PlannedEntry.{PlannedEntry}
use Rattle.junos_plans.specs.declared.condition.PlannedList.{PlannedList}
use Rattle.junos_plans.specs.declared.condition.PlannedTest.{PlannedTest}
use Rattle.junos_plans.specs.declared.condition.PlannedTest.TheVariants.{Asked, Listed}
use Rattle.junos_plans.specs.declared.step.PlannedLiteral.{PlannedLiteral}
use Rattle.junos_plans.specs.declared.step.PlannedStep.{PlannedStep}
use Rattle.junos_layout.specs.Actions.{set_to, prepend_of, is_all, member_alone, done_with, replaced, community_actions, actions_of}
use Rattle.junos_layout.specs.Answers.{Defines, DefinesAll}
use Rattle.junos_layout.specs.Options.{Definitions, options_of}
use Rattle.junos_layout.specs.Terms.{test_lines, one_literal, literal_lines, from_of, ending, ends_by, list_terms, literal_term, subroutine_terms, behind_from, step_terms}
use Rattle.junos_layout.specs.Uses.{test_conditions, test_calls, literal_conditions, literal_calls, changed_sets, one_call, guard_calls, NamesPath, NamesSet, NamesCall, NamesCondition, NamesInSubroutine, NamesInStep, NamesDefinitions, FitsSubroutine, FitsDefinitions, HasFew}
use Rattle.junos_layout.specs.Writing.{Subroutine, OfList, Unless, AllOf, Writing}
use Rattle.junos_layout.proofs.ActionMeans.{HasMembers, acted_join, actions_act}
use Rattle.junos_layout.proofs.Found.{all, at_place, pattern_found, members_found, subroutine_found, policy_found}
use Rattle.junos_layout.proofs.FromMeans.{OnlyCalls, conditions_hold, condition_alone}
use Rattle.junos_layout.proofs.FromSound.{all_join}
use Rattle.junos_layout.proofs.InProfile.{forms_are}
use Rattle.junos_text.specs.Layout.{forms_of}

-- ---- where a run goes behind actions

-- the action leaves the run to what stands behind it
abbrev GoesOn : Action → Type 0
GoesOn a = (rest : Flow) → flow_in a rest ≡ rest

on_set : {A : Type 0} (make : A → Action) (o : _) → ((x : A) → GoesOn (make x)) → AllByRecursion GoesOn (set_to make o)
on_set make None each = tt
on_set make (Some x) each = (each x, tt)

on_prepend : (ns : List ℕ) → AllByRecursion GoesOn (prepend_of ns)
on_prepend [] = tt
on_prepend (n ∷ ns) = (λ rest. refl, tt)

module _ (w : Writing) where
  on_done : (verb : CommunityVerb) (rs : List RectParts) → AllByRecursion GoesOn (done_with w verb rs)
  on_done verb [] = tt
  on_done verb (r ∷ rs) = (λ rest. refl, tt)

  on_replaced : (rs : List RectParts) → AllByRecursion GoesOn (replaced w rs)
  on_replaced [] = (λ rest. refl, tt)
  on_replaced (r ∷ rs) = (λ rest. refl, tt)

  on_communities : (o : Option CommChange) → AllByRecursion GoesOn (community_actions w o)
  on_communities None = tt
  on_communities (Some c) = one (list_any is_all c.removed) where
    one : (b : Bool) → AllByRecursion GoesOn (elim b [ true ↦ replaced w (map member_alone c.added) | false ↦ done_with w Delete c.removed ++ done_with w Add (map member_alone c.added) ])
    one true = on_replaced (map member_alone c.added)
    one false = all_join GoesOn (done_with w Delete c.removed) (done_with w Add (map member_alone c.added)) (on_done Delete c.removed) (on_done Add (map member_alone c.added))

  on_actions : (p : PlannedChanges) → AllByRecursion GoesOn (actions_of w p)
  on_actions p =
      all_join GoesOn (set_to LocalPreference p.local_preference) _ (on_set LocalPreference p.local_preference (λ x rest. refl))
      (all_join GoesOn (set_to Metric p.med) _ (on_set Metric p.med (λ x rest. refl))
      (all_join GoesOn (set_to SetsOrigin p.origin) _ (on_set SetsOrigin p.origin (λ x rest. refl))
      (all_join GoesOn (set_to SetsHop p.next_hop) _ (on_set SetsHop p.next_hop (λ x rest. refl))
      (all_join GoesOn (prepend_of p.prepended) (community_actions w p.communities) (on_prepend p.prepended) (on_communities p.communities)))))

-- the flow of an ending
abbrev end_flow : Bool → Flow
end_flow true = Accept
end_flow false = Reject

flow_at_end : (xs : List Action) (accept : Bool) → AllByRecursion GoesOn xs → flow_of (xs ++ ending accept ∷ []) ≡ end_flow accept
unfolding flow_of
flow_at_end [] true h = refl
flow_at_end [] false h = refl
flow_at_end (x ∷ xs) accept h = h.0 (flow_of (xs ++ ending accept ∷ [])) ∙ flow_at_end xs accept h.1

end_acts : (fs : List JunosForm) (accept : Bool) (r : RouteParts) → acted_by fs (ending accept ∷ []) r ≡ r
unfolding acted_by
end_acts fs true r = refl
end_acts fs false r = refl

end_fate : (accept : Bool) (rest : RouteParts → Fate) (r : RouteParts) → fate_behind (end_flow accept) rest r ≡ Ends (ended accept r)
end_fate true rest r = refl
end_fate false rest r = refl

end_answers : (accept rest : Bool) → answer_behind (flow_of (ending accept ∷ [])) rest ≡ accept
unfolding flow_of
end_answers true rest = refl
end_answers false rest = refl

or_none : (b : Bool) → (b || false) ≡ b
or_none true = refl
or_none false = refl

and_all : (b : Bool) → (b && true) ≡ b
and_all true = refl
and_all false = refl

-- ---- a plan

module _ (name : List ℕ) (defs : Definitions) (w : Writing) (steps : List PlannedStep) (few : HasFew defs w steps) (fit : FitsDefinitions defs) (named : NamesDefinitions name defs w steps) where
  abbrev fs : List JunosForm
  fs = all name defs w steps few

  defines : (c : PlannedCondition) → NamesCondition name defs w c → Defines fs w c
  defines Anything h = tt
  defines (Destination xs) h = tt
  defines (NextHop hops) h = tt
  defines (Path texts) h = each texts h.0 where
    each : (ts : List (List ℕ)) → AllByRecursion (NamesPath name defs w) ts → Defines fs w (Path ts)
    each [] k = tt
    each (t ∷ ts) k = (pattern_found name defs w steps few fit t k.0, each ts k.1)
  defines (Communities sets) h = each sets h.1 where
    each : (ss : List (List RectParts)) → AllByRecursion (NamesSet name defs w) ss → Defines fs w (Communities ss)
    each [] k = tt
    each (s ∷ ss) k = (members_found name defs w steps few s k.0, each ss k.1)
  defines (Med n) h = tt
  defines (AsksPreference n) h = tt
  defines (Origin o) h = tt

  defines_all : (cs : List PlannedCondition) → AllByRecursion (NamesCondition name defs w) cs → DefinesAll fs w cs
  defines_all [] h = tt
  defines_all (c ∷ cs) h = (defines c h.0, defines_all cs h.1)

  -- what stands in a subroutine that is called fits, and is named
  inside : (s : Subroutine) → NamesCall name defs w s → FitsSubroutine s × NamesInSubroutine name defs w s
  inside s (n, there, is) = (at_place FitsSubroutine defs.subroutines n s there fit.subroutines, at_place (NamesInSubroutine name defs w) defs.subroutines n s there named.subroutines)

  module _ (r : RouteParts) where
    abbrev holds_at : ℕ → List Condition → Bool
    holds_at n from = from_holds fs (accepts n fs r) r from

    nothing_holds : (n : ℕ) → holds_at n [] ≡ true
    unfolding from_holds
    nothing_holds n = refl

    call_alone : (n : ℕ) (names : List (List ℕ)) → holds_at n (CallLine names ∷ []) ≡ list_any (accepts n fs r) names
    unfolding from_holds
    call_alone n names = or_none (list_any (accepts n fs r) names)

    one_call_alone : (n : ℕ) (q : List ℕ) → holds_at n (CallLine (q ∷ []) ∷ []) ≡ accepts n fs r q
    one_call_alone n q = call_alone n (q ∷ []) ∙ or_none (accepts n fs r q)

    -- the answer of a subroutine is that of its terms
    answer_is : (n : ℕ) (s : Subroutine) → NamesCall name defs w s
        → accepts (suc n) fs r (w.subroutine s) ≡ terms_accept (λ t. holds_at n t.conditions) (subroutine_terms w s ++ nothing ∷ [])
    unfolding accepts
    answer_is n s called = ap (terms_accept (λ t. holds_at n t.conditions)) (subroutine_found name defs w steps few s called)

    -- ---- lists

    entries_answer : (n : ℕ) (es : List PlannedEntry) (rest : List Content) → AllByRecursion FitsEntry es → AllByRecursion (NamesCondition name defs w) (map (λ e. e.condition) es)
        → terms_accept (λ t. holds_at n t.conditions) (list_terms w es ++ rest) ≡ entries_accept (condition_holds r) es
    unfolding terms_accept entries_accept from_holds flow_of
    entries_answer n [] rest fits named_too = refl
    entries_answer n (e ∷ es) rest fits named_too =
        let later : Bool = terms_accept (λ t. holds_at n t.conditions) (list_terms w es ++ rest) in
        ap (λ (b : Bool). elim b [ true ↦ answer_behind (flow_of (ending e.permit ∷ [])) later | false ↦ later ]) (condition_alone fs (accepts n fs r) w r e.condition (defines e.condition named_too.0) fits.0)
        ∙ ap (λ (b : Bool). elim (condition_holds r e.condition) [ true ↦ b | false ↦ later ]) (end_answers e.permit later)
        ∙ ap (λ (b : Bool). elim (condition_holds r e.condition) [ true ↦ e.permit | false ↦ b ]) (entries_answer n es rest fits.1 named_too.1)

    list_answers : (n : ℕ) (l : PlannedList) → NamesCall name defs w (OfList l) → accepts (suc n) fs r (w.subroutine (OfList l)) ≡ entries_accept (condition_holds r) l.entries
    list_answers n l called =
        let within = inside (OfList l) called in
        answer_is n (OfList l) called ∙ entries_answer n l.entries (nothing ∷ []) within.0 within.1.conditions

    lists_answer : (n : ℕ) (ls : List PlannedList) → AllByRecursion (NamesCall name defs w) (map (λ l. OfList l) ls)
        → list_any (accepts (suc n) fs r) (map (λ l. w.subroutine (OfList l)) ls) ≡ list_any (λ l. entries_accept (condition_holds r) l.entries) ls
    lists_answer n [] h = refl
    lists_answer n (l ∷ ls) h =
        ap (λ (b : Bool). b || list_any (accepts (suc n) fs r) (map (λ m. w.subroutine (OfList m)) ls)) (list_answers n l h.0)
        ∙ ap (λ (b : Bool). entries_accept (condition_holds r) l.entries || b) (lists_answer n ls h.1)

    test_answers : (n : ℕ) (test : PlannedTest) → FitsTest test → AllByRecursion (NamesCondition name defs w) (test_conditions test) → AllByRecursion (NamesCall name defs w) (test_calls test)
        → holds_at (suc n) (test_lines w test) ≡ test_holds (condition_holds r) test
    test_answers n (Asked c) fits conditions calls = condition_alone fs (accepts (suc n) fs r) w r c (defines c conditions.0) fits
    test_answers n (Listed ls) fits conditions calls = call_alone (suc n) (map (λ l. w.subroutine (OfList l)) ls) ∙ lists_answer n ls calls

    -- ---- subroutines of literals

    unless_answers : (n : ℕ) (test : PlannedTest) → NamesCall name defs w (Unless test) → accepts (suc (suc n)) fs r (w.subroutine (Unless test)) ≡ not (test_holds (condition_holds r) test)
    unfolding terms_accept from_holds flow_of
    unless_answers n test called =
        let within = inside (Unless test) called in
        answer_is (suc n) (Unless test) called
        ∙ ap (λ (b : Bool). elim b [ true ↦ false | false ↦ true ]) (test_answers n test within.0 within.1.conditions within.1.calls)
        ∙ negated (test_holds (condition_holds r) test)
      where
        negated : (b : Bool) → ◌≡◌ {A = Bool} (elim b [ true ↦ false | false ↦ true ]) (not b)
        negated true = refl
        negated false = refl

    literal_term_answers : (n : ℕ) (test : PlannedTest) (wanted : Bool) → FitsTest test
        → AllByRecursion (NamesCondition name defs w) (literal_conditions (record { test = test; wanted = wanted }))
        → AllByRecursion (NamesCall name defs w) (literal_calls (record { test = test; wanted = wanted }))
        → holds_at (suc (suc n)) (literal_term w (record { test = test; wanted = wanted })).conditions ≡ not (beq (test_holds (condition_holds r) test) wanted)
    literal_term_answers n test true fits conditions calls =
        one_call_alone (suc (suc n)) (w.subroutine (Unless test)) ∙ unless_answers n test calls.0 ∙ ap not (same (test_holds (condition_holds r) test)) where
          same : (b : Bool) → b ≡ beq b true
          same true = refl
          same false = refl
    literal_term_answers n test false fits conditions calls = test_answers (suc n) test fits conditions calls ∙ other (test_holds (condition_holds r) test) where
      other : (b : Bool) → b ≡ not (beq b false)
      other true = refl
      other false = refl

    -- a term that rejects where a literal doesn't say what is wanted
    literal_rejects : (wanted : Bool) (test : PlannedTest) → flow_of (literal_term w (record { test = test; wanted = wanted })).actions ≡ Reject
    unfolding flow_of
    literal_rejects true test = refl
    literal_rejects false test = refl

    front : {A : Type 0} (P : A → Type 0) (xs ys : List A) → AllByRecursion P (xs ++ ys) → AllByRecursion P xs × AllByRecursion P ys
    front P [] ys h = (tt, h)
    front P (x ∷ xs) ys h = let more = front P xs ys h.1 in ((h.0, more.0), more.1)

    literals_answer : (n : ℕ) (ls : List PlannedLiteral) (rest : List Content) → AllByRecursion FitsLiteral ls
        → AllByRecursion (NamesCondition name defs w) (flat_map literal_conditions ls)
        → AllByRecursion (NamesCall name defs w) (flat_map literal_calls ls)
        → terms_accept (λ t. holds_at (suc (suc n)) t.conditions) ((map (literal_term w) ls ++ ends_by [] true ∷ []) ++ rest) ≡ list_all (literal_says (condition_holds r)) ls
    unfolding terms_accept from_holds flow_of
    literals_answer n [] rest fits conditions calls = refl
    literals_answer n (l ∷ ls) rest fits conditions calls =
        let one = front (NamesCondition name defs w) (literal_conditions l) (flat_map literal_conditions ls) conditions in
        let two = front (NamesCall name defs w) (literal_calls l) (flat_map literal_calls ls) calls in
        let later : Bool = terms_accept (λ t. holds_at (suc (suc n)) t.conditions) ((map (literal_term w) ls ++ ends_by [] true ∷ []) ++ rest) in
        ap (λ (b : Bool). elim b [ true ↦ answer_behind (flow_of (literal_term w l).actions) later | false ↦ later ]) (literal_term_answers n l.test l.wanted fits.0 one.0 two.0)
        ∙ ap (λ (f : Flow). elim (not (literal_says (condition_holds r) l)) [ true ↦ answer_behind f later | false ↦ later ]) (literal_rejects l.wanted l.test)
        ∙ both (literal_says (condition_holds r) l) later
        ∙ ap (λ (b : Bool). literal_says (condition_holds r) l && b) (literals_answer n ls rest fits.1 one.1 two.1)
      where
        both : (a b : Bool) → ◌≡◌ {A = Bool} (elim (not a) [ true ↦ false | false ↦ b ]) (a && b)
        both true b = refl
        both false b = refl

    all_answers : (n : ℕ) (ls : List PlannedLiteral) → NamesCall name defs w (AllOf ls) → accepts (suc (suc (suc n))) fs r (w.subroutine (AllOf ls)) ≡ list_all (literal_says (condition_holds r)) ls
    all_answers n ls called =
        let within = inside (AllOf ls) called in
        answer_is (suc (suc n)) (AllOf ls) called ∙ literals_answer n ls (nothing ∷ []) within.0 within.1.conditions within.1.calls

    -- ---- guards

    one_answers : (n : ℕ) (test : PlannedTest) (wanted : Bool) → AllByRecursion (NamesCall name defs w) (one_call test wanted)
        → holds_at (suc (suc (suc n))) (one_literal w test wanted) ≡ beq (test_holds (condition_holds r) test) wanted
    one_answers n (Listed ls) true h =
        call_alone (suc (suc (suc n))) (map (λ l. w.subroutine (OfList l)) ls) ∙ lists_answer (suc (suc n)) ls h ∙ same (list_any (λ l. entries_accept (condition_holds r) l.entries) ls) where
          same : (b : Bool) → b ≡ beq b true
          same true = refl
          same false = refl
    one_answers n (Listed ls) false h =
        one_call_alone (suc (suc (suc n))) (w.subroutine (AllOf (record { test = Listed ls; wanted = false } ∷ [])))
        ∙ all_answers n (record { test = Listed ls; wanted = false } ∷ []) h.0
        ∙ and_all (beq (test_holds (condition_holds r) (Listed ls)) false)
    one_answers n (Asked c) wanted h =
        one_call_alone (suc (suc (suc n))) (w.subroutine (AllOf (record { test = Asked c; wanted = wanted } ∷ [])))
        ∙ all_answers n (record { test = Asked c; wanted = wanted } ∷ []) h.0
        ∙ and_all (beq (test_holds (condition_holds r) (Asked c)) wanted)

    literals_hold : (n : ℕ) (ls : List PlannedLiteral) → AllByRecursion (NamesCall name defs w) (guard_calls ls)
        → holds_at (suc (suc (suc n))) (literal_lines w ls) ≡ list_all (literal_says (condition_holds r)) ls
    literals_hold n [] h = nothing_holds (suc (suc (suc n)))
    literals_hold n (l ∷ []) h = one_answers n l.test l.wanted h ∙ sym (and_all (literal_says (condition_holds r) l))
    literals_hold n (l ∷ m ∷ ls) h = one_call_alone (suc (suc (suc n))) (w.subroutine (AllOf (l ∷ m ∷ ls))) ∙ all_answers n (l ∷ m ∷ ls) h.0

    one_calls : (test : PlannedTest) (wanted : Bool) → OnlyCalls (one_literal w test wanted)
    one_calls (Listed ls) true = record { communities = refl; paths = refl; hops = refl; meds = refl; preferences = refl; origins = refl; filters = refl }
    one_calls (Listed ls) false = record { communities = refl; paths = refl; hops = refl; meds = refl; preferences = refl; origins = refl; filters = refl }
    one_calls (Asked c) wanted = record { communities = refl; paths = refl; hops = refl; meds = refl; preferences = refl; origins = refl; filters = refl }

    only_calls : (ls : List PlannedLiteral) → OnlyCalls (literal_lines w ls)
    only_calls [] = record { communities = refl; paths = refl; hops = refl; meds = refl; preferences = refl; origins = refl; filters = refl }
    only_calls (l ∷ []) = one_calls l.test l.wanted
    only_calls (l ∷ m ∷ ls) = record { communities = refl; paths = refl; hops = refl; meds = refl; preferences = refl; origins = refl; filters = refl }

    guard_holds : (n : ℕ) (s : PlannedStep) → FitsStep s → NamesInStep name defs w s → holds_at (suc (suc (suc n))) (from_of w s.guard) ≡ guard_says (condition_holds r) s.guard
    guard_holds n s fits h =
        conditions_hold fs (accepts (suc (suc (suc n))) fs r) w r s.guard.conditions (literal_lines w s.guard.literals) (defines_all s.guard.conditions h.conditions) fits.guard.conditions fits.guard.different (only_calls s.guard.literals)
        ∙ ap (λ (b : Bool). list_all (condition_holds r) s.guard.conditions && b) (literals_hold n s.guard.literals h.calls)

    -- ---- steps

    has_members : (sets : List (List RectParts)) → AllByRecursion (NamesSet name defs w) sets → AllByRecursion (HasMembers fs w) sets
    has_members [] h = tt
    has_members (s ∷ ss) h = (members_found name defs w steps few s h.0, has_members ss h.1)

    behind_is : (n : ℕ) (from : List Condition) (later : List Content) → holds_at n from ≡ false → behind_from from later ≡ later
    unfolding from_holds
    behind_is n [] later e = absurd cc
    behind_is n (c ∷ cs) later e = refl

    module _ (range : InRange r) where
      -- what a step does where its guard holds
      step_ends : (s : PlannedStep) (rest : RouteParts → Fate) → NamesInStep name defs w s
          → fate_behind (flow_of (actions_of w s.changes ++ ending s.accept ∷ [])) rest (acted_by fs (actions_of w s.changes ++ ending s.accept ∷ []) r) ≡ Ends (ended s.accept (changed_as s.changes r))
      step_ends s rest h =
          ap (λ (f : Flow). fate_behind f rest (acted_by fs (actions_of w s.changes ++ ending s.accept ∷ []) r)) (flow_at_end (actions_of w s.changes) s.accept (on_actions w s.changes))
          ∙ end_fate s.accept rest (acted_by fs (actions_of w s.changes ++ ending s.accept ∷ []) r)
          ∙ ap (λ (q : RouteParts). Ends (ended s.accept q))
          (acted_join fs (actions_of w s.changes) (ending s.accept ∷ []) r
          ∙ end_acts fs s.accept (acted_by fs (actions_of w s.changes) r)
          ∙ actions_act fs w s.changes r (has_members (changed_sets s.changes.communities) h.changes) range.ascending range.communities)

      steps_run : (ss : List PlannedStep) (rest : List Content) → FitsSteps ss → AllByRecursion (NamesInStep name defs w) ss → run_terms fs (step_terms w ss ++ rest) r ≡ Ends (planned_outcome (condition_holds r) ss r)
      unfolding run_terms step_terms planned_outcome from_holds flow_of
      steps_run [] rest fits h = refl
      steps_run (s ∷ ss) rest fits h = by_guard (guard_says (condition_holds r) s.guard) refl (steps_run ss rest fits.1 h.1)
        where
          later : List Content
          later = behind_from (from_of w s.guard) (step_terms w ss) ++ rest

          acts : List Action
          acts = actions_of w s.changes ++ ending s.accept ∷ []

          guard_is : from_holds fs (accepts most_calls fs r) r (from_of w s.guard) ≡ guard_says (condition_holds r) s.guard
          guard_is = guard_holds 125 s fits.0 h.0

          by_guard : (b : Bool) → guard_says (condition_holds r) s.guard ≡ b
              → run_terms fs (step_terms w ss ++ rest) r ≡ Ends (planned_outcome (condition_holds r) ss r)
              → (elim (from_holds fs (accepts most_calls fs r) r (from_of w s.guard)) [ true ↦ fate_behind (flow_of acts) (run_terms fs later) (acted_by fs acts r) | false ↦ run_terms fs later r ])
              ≡ Ends (elim (guard_says (condition_holds r) s.guard) [ true ↦ ended s.accept (changed_as s.changes r) | false ↦ planned_outcome (condition_holds r) ss r ])
          by_guard true e more =
              ap (λ (b : Bool). elim b [ true ↦ fate_behind (flow_of acts) (run_terms fs later) (acted_by fs acts r) | false ↦ run_terms fs later r ]) (guard_is ∙ e)
              ∙ step_ends s (run_terms fs later) h.0
              ∙ ap (λ (b : Bool). Ends (elim b [ true ↦ ended s.accept (changed_as s.changes r) | false ↦ planned_outcome (condition_holds r) ss r ])) (sym e)
          by_guard false e more =
              ap (λ (b : Bool). elim b [ true ↦ fate_behind (flow_of acts) (run_terms fs later) (acted_by fs acts r) | false ↦ run_terms fs later r ]) (guard_is ∙ e)
              ∙ ap (λ (ts : List Content). run_terms fs (ts ++ rest) r) (behind_is most_calls (from_of w s.guard) (step_terms w ss) (guard_is ∙ e))
              ∙ more
              ∙ ap (λ (b : Bool). Ends (elim b [ true ↦ ended s.accept (changed_as s.changes r) | false ↦ planned_outcome (condition_holds r) ss r ])) (sym e)

      means : FitsSteps steps → junos_meaning fs (name ∷ []) r ≡ planned_outcome (condition_holds r) steps r
      unfolding junos_meaning
      means fits =
          ap (λ (ts : List Content). then_on (junos_meaning fs []) (run_terms fs ts r)) (policy_found name defs w steps few)
          ∙ ap (then_on (junos_meaning fs [])) (steps_run steps (nothing ∷ []) fits named.steps)

-- the definitions of planned steps give every route the outcome of the steps
pub plan_means : (name : List ℕ) (defs : Definitions) (w : Writing) (steps : List PlannedStep) → HasFew defs w steps → FitsDefinitions defs → FitsSteps steps → NamesDefinitions name defs w steps
    → (r : RouteParts) → InRange r → junos_meaning (forms_of (options_of name defs w steps)) (name ∷ []) r ≡ planned_outcome (condition_holds r) steps r
plan_means name defs w steps few fit fits named r range =
    ap (λ (gs : List JunosForm). junos_meaning gs (name ∷ []) r) (forms_are name defs w steps) ∙ means name defs w steps few fit named r range fits
