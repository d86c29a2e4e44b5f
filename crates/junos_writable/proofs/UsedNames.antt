-- What the definitions of a plan name is the policy's own.
use Rattle.std.proofs.Common.{sym, subst, ℕ, ◌+◌, Bool, true, false, List, [], ◌∷◌, ◌++◌, map, Option, Some, None, inr}
use Rattle.std.specs.Prelude.{decimal}
use Rattle.std.specs.List.{list_any, flat_map, AllByRecursion}
use Rattle.path_patterns.proofs.Lists.{all_append}
use Rattle.prefix_sets.specs.Range.{RangeParts}
use Rattle.route_types.specs.Community.{RectParts}
use Rattle.route_types.specs.declared.community.CommChange.{CommChange}
use Rattle.junos_tree.specs.Forms.{condition_form, action_form}
use Rattle.junos_tree.specs.Terms.{Content}
use Rattle.junos_tree.specs.declared.item.Action.{Action}
use Rattle.junos_tree.specs.declared.item.Action.TheVariants.{Metric, LocalPreference, Origin, NextHop}
use Rattle.junos_tree.specs.declared.item.CommunityVerb.{CommunityVerb}
use Rattle.junos_tree.specs.declared.item.CommunityVerb.TheVariants.{Delete, Add}
use Rattle.junos_tree.specs.declared.item.Condition.{Condition}
use Rattle.junos_tree.specs.declared.item.Condition.TheVariants.{Policy as CallLine, RouteFilter}
use Rattle.junos_reader.specs.Statements.{named_by_condition, named_by_action}
use Rattle.junos_text.specs.Layout.{term_forms, option_forms, forms_of}
use Rattle.junos_text.specs.declared.option.PolicyOption.{PolicyOption}
use Rattle.junos_plans.specs.declared.changes.PlannedChanges.{PlannedChanges}
use Rattle.junos_plans.specs.declared.condition.PlannedCondition.{PlannedCondition}
use Rattle.junos_plans.specs.declared.condition.PlannedCondition.TheVariants.{Anything, Destination, NextHop as OnNextHop, Path, Communities, Med, LocalPreference as OnPreference, Origin as OnOrigin}
use Rattle.junos_plans.specs.declared.condition.PlannedEntry.{PlannedEntry}
use Rattle.junos_plans.specs.declared.condition.PlannedList.{PlannedList}
use Rattle.junos_plans.specs.declared.condition.PlannedTest.{PlannedTest}
use Rattle.junos_plans.specs.declared.condition.PlannedTest.TheVariants.{Asked, Listed}
use Rattle.junos_plans.specs.declared.step.PlannedLiteral.{PlannedLiteral}
use Rattle.junos_plans.specs.declared.step.PlannedStep.{PlannedStep}
use Rattle.junos_layout.specs.Actions.{set_to, prepend_of, everything, is_all, member_alone, done_with, replaced, community_actions, actions_of}
use Rattle.junos_layout.specs.Options.{Definitions, subroutine_name, defined_from, numbered, policy_of, options_of}
use Rattle.junos_layout.specs.Terms.{condition_lines, call_of, test_lines, one_literal, literal_lines, from_of, ending, ends_by, list_terms, literal_term, subroutine_terms, behind_from, step_terms}
use Rattle.junos_layout.specs.Uses.{NamesPath, NamesSet, NamesCall, NamesCondition, NamesInSubroutine, NamesInStep, NamesDefinitions, test_conditions, test_calls, literal_conditions, literal_calls, one_call, guard_calls, some_members, replacing, changed_sets}
use Rattle.junos_layout.specs.Writing.{Subroutine, OfList, Unless, AllOf, Writing}
use Rattle.junos_layout.proofs.DefinitionWalk.{options_join}
use Rattle.junos_layout.proofs.InProfile.{define_path, define_community, define_subroutine}
use Rattle.junos_writable.specs.Names.{IsOwnName, NamesOwn}
use Rattle.junos_writable.proofs.ConditionLaws.{all_front}
use Rattle.junos_writable.proofs.ValueLaws.{all_map}

module _ (name : List ℕ) (defs : Definitions) (w : Writing) where
  abbrev Owns : List (List ℕ) → Type 0
  Owns names = AllByRecursion (IsOwnName name) names

  -- what a condition and an action name
  abbrev Asks : Condition → Type 0
  Asks c = Owns (named_by_condition c).1

  abbrev Does : Action → Type 0
  Does a = Owns (named_by_action a).1

  -- what a term names
  record OwnTerm (t : Content) : Type 0 where
    conditions : AllByRecursion Asks t.conditions
    actions : AllByRecursion Does t.actions

  path_own : (text : List ℕ) → NamesPath name defs w text → IsOwnName name (w.path text)
  path_own text (n, there, is) = inr (97 ∷ decimal (n + 1), is)

  set_own : (members : List RectParts) → NamesSet name defs w members → IsOwnName name (w.community members)
  set_own members (n, there, is) = inr (99 ∷ decimal (n + 1), is)

  call_own : (s : Subroutine) → NamesCall name defs w s → IsOwnName name (w.subroutine s)
  call_own s (n, there, is) = inr (115 ∷ decimal (n + 1), is)

  -- ---- conditions

  filters_own : (xs : List RangeParts) → AllByRecursion Asks (map (λ x. RouteFilter x) xs)
  filters_own [] = tt
  filters_own (x ∷ xs) = (tt, filters_own xs)

  lines_own : (c : PlannedCondition) → NamesCondition name defs w c → AllByRecursion Asks (condition_lines w c)
  lines_own Anything h = tt
  lines_own (Destination xs) h = filters_own xs
  lines_own (OnNextHop hops) h = (tt, tt)
  lines_own (Path texts) h = (all_map (NamesPath name defs w) (IsOwnName name) w.path path_own texts h.0, tt)
  lines_own (Communities sets) h = (all_map (NamesSet name defs w) (IsOwnName name) w.community set_own sets h.1, tt)
  lines_own (Med n) h = (tt, tt)
  lines_own (OnPreference n) h = (tt, tt)
  lines_own (OnOrigin o) h = (tt, tt)

  all_lines_own : (cs : List PlannedCondition) → AllByRecursion (NamesCondition name defs w) cs → AllByRecursion Asks (flat_map (condition_lines w) cs)
  all_lines_own [] h = tt
  all_lines_own (c ∷ cs) h = all_append Asks (condition_lines w c) (flat_map (condition_lines w) cs) (lines_own c h.0) (all_lines_own cs h.1)

  lists_own : (ls : List PlannedList) → AllByRecursion (NamesCall name defs w) (map (λ l. OfList l) ls) → Asks (call_of w ls)
  lists_own [] h = tt
  lists_own (l ∷ ls) h = (call_own (OfList l) h.0, lists_own ls h.1)

  test_own : (test : PlannedTest) → AllByRecursion (NamesCondition name defs w) (test_conditions test) → AllByRecursion (NamesCall name defs w) (test_calls test) → AllByRecursion Asks (test_lines w test)
  test_own (Asked c) h k = lines_own c h.0
  test_own (Listed ls) h k = (lists_own ls k, tt)

  one_own : (test : PlannedTest) (wanted : Bool) → AllByRecursion (NamesCall name defs w) (one_call test wanted) → AllByRecursion Asks (one_literal w test wanted)
  one_own (Listed ls) true k = (lists_own ls k, tt)
  one_own (Listed ls) false k = ((call_own (AllOf (record { test = Listed ls; wanted = false } ∷ [])) k.0, tt), tt)
  one_own (Asked c) wanted k = ((call_own (AllOf (record { test = Asked c; wanted = wanted } ∷ [])) k.0, tt), tt)

  calls_own : (ls : List PlannedLiteral) → AllByRecursion (NamesCall name defs w) (guard_calls ls) → AllByRecursion Asks (literal_lines w ls)
  calls_own [] k = tt
  calls_own (l ∷ []) k = one_own l.test l.wanted k
  calls_own (l ∷ m ∷ ls) k = ((call_own (AllOf (l ∷ m ∷ ls)) k.0, tt), tt)

  -- ---- subroutines

  end_own : (from : List Condition) (accept : Bool) → AllByRecursion Asks from → OwnTerm (ends_by from accept)
  end_own from true h = record { conditions = h; actions = (tt, tt) }
  end_own from false h = record { conditions = h; actions = (tt, tt) }

  entries_own : (es : List PlannedEntry) → AllByRecursion (NamesCondition name defs w) (map (λ e. e.condition) es) → AllByRecursion OwnTerm (list_terms w es)
  entries_own [] h = (end_own [] false tt, tt)
  entries_own (e ∷ es) h = (end_own (condition_lines w e.condition) e.permit (lines_own e.condition h.0), entries_own es h.1)

  literal_own : (test : PlannedTest) (wanted : Bool) → AllByRecursion (NamesCondition name defs w) (literal_conditions (record { test = test; wanted = wanted }))
      → AllByRecursion (NamesCall name defs w) (literal_calls (record { test = test; wanted = wanted }))
      → OwnTerm (literal_term w (record { test = test; wanted = wanted }))
  literal_own test true h k = end_own (CallLine (w.subroutine (Unless test) ∷ []) ∷ []) false ((call_own (Unless test) k.0, tt), tt)
  literal_own test false h k = end_own (test_lines w test) false (test_own test h k)

  literals_own : (ls : List PlannedLiteral) → AllByRecursion (NamesCondition name defs w) (flat_map literal_conditions ls)
      → AllByRecursion (NamesCall name defs w) (flat_map literal_calls ls)
      → AllByRecursion OwnTerm (map (literal_term w) ls ++ ends_by [] true ∷ [])
  literals_own [] h k = (end_own [] true tt, tt)
  literals_own (l ∷ ls) h k =
      let conditions = all_front (NamesCondition name defs w) (literal_conditions l) (flat_map literal_conditions ls) h in
      let calls = all_front (NamesCall name defs w) (literal_calls l) (flat_map literal_calls ls) k in
      (literal_own l.test l.wanted conditions.0 calls.0, literals_own ls conditions.1 calls.1)

  subroutine_own : (s : Subroutine) → NamesInSubroutine name defs w s → AllByRecursion OwnTerm (subroutine_terms w s)
  subroutine_own (OfList l) h = entries_own l.entries h.conditions
  subroutine_own (Unless test) h = (end_own (test_lines w test) false (test_own test h.conditions h.calls), (end_own [] true tt, tt))
  subroutine_own (AllOf ls) h = literals_own ls h.conditions h.calls

  -- ---- actions

  set_to_own : {A : Type 0} (make : A → Action) → ((x : A) → Does (make x)) → (o : Option A) → AllByRecursion Does (set_to make o)
  set_to_own make each None = tt
  set_to_own make each (Some x) = (each x, tt)

  prepend_own : (ns : List ℕ) → AllByRecursion Does (prepend_of ns)
  prepend_own [] = tt
  prepend_own (n ∷ ns) = (tt, tt)

  done_own : (verb : CommunityVerb) (rs : List RectParts) → AllByRecursion (NamesSet name defs w) (some_members rs) → AllByRecursion Does (done_with w verb rs)
  done_own verb [] h = tt
  done_own verb (r ∷ rs) h = ((set_own (r ∷ rs) h.0, tt), tt)

  replaced_own : (rs : List RectParts) → AllByRecursion (NamesSet name defs w) (replacing rs) → AllByRecursion Does (replaced w rs)
  replaced_own [] h = ((set_own (everything ∷ []) h.0, tt), tt)
  replaced_own (r ∷ rs) h = ((set_own (r ∷ rs) h.0, tt), tt)

  communities_own : (o : Option CommChange) → AllByRecursion (NamesSet name defs w) (changed_sets o) → AllByRecursion Does (community_actions w o)
  communities_own None h = tt
  communities_own (Some c) h = one (list_any is_all c.removed) h where
    one : (b : Bool) → AllByRecursion (NamesSet name defs w) (elim b [ true ↦ replacing (map member_alone c.added) | false ↦ some_members c.removed ++ some_members (map member_alone c.added) ])
        → AllByRecursion Does (elim b [ true ↦ replaced w (map member_alone c.added) | false ↦ done_with w Delete c.removed ++ done_with w Add (map member_alone c.added) ])
    one true k = replaced_own (map member_alone c.added) k
    one false k =
        let parts = all_front (NamesSet name defs w) (some_members c.removed) (some_members (map member_alone c.added)) k in
        all_append Does (done_with w Delete c.removed) (done_with w Add (map member_alone c.added)) (done_own Delete c.removed parts.0) (done_own Add (map member_alone c.added) parts.1)

  actions_own : (p : PlannedChanges) → AllByRecursion (NamesSet name defs w) (changed_sets p.communities) → AllByRecursion Does (actions_of w p)
  actions_own p h =
      all_append Does (set_to LocalPreference p.local_preference) _ (set_to_own LocalPreference (λ x. tt) p.local_preference)
      (all_append Does (set_to Metric p.med) _ (set_to_own Metric (λ x. tt) p.med)
      (all_append Does (set_to Origin p.origin) _ (set_to_own Origin (λ x. tt) p.origin)
      (all_append Does (set_to NextHop p.next_hop) _ (set_to_own NextHop (λ x. tt) p.next_hop)
      (all_append Does (prepend_of p.prepended) (community_actions w p.communities) (prepend_own p.prepended) (communities_own p.communities h)))))

  -- ---- steps

  ending_own : (accept : Bool) → AllByRecursion Does (ending accept ∷ [])
  ending_own true = (tt, tt)
  ending_own false = (tt, tt)

  step_own : (s : PlannedStep) → NamesInStep name defs w s → OwnTerm (record { conditions = from_of w s.guard; actions = actions_of w s.changes ++ ending s.accept ∷ [] })
  step_own s h = record {
    conditions = all_append Asks (flat_map (condition_lines w) s.guard.conditions) (literal_lines w s.guard.literals) (all_lines_own s.guard.conditions h.conditions) (calls_own s.guard.literals h.calls);
    actions = all_append Does (actions_of w s.changes) (ending s.accept ∷ []) (actions_own s.changes h.changes) (ending_own s.accept);
  }

  behind_own : (from : List Condition) (rest : List Content) → AllByRecursion OwnTerm rest → AllByRecursion OwnTerm (behind_from from rest)
  behind_own [] rest h = tt
  behind_own (c ∷ cs) rest h = h

  steps_own : (ss : List PlannedStep) → AllByRecursion (NamesInStep name defs w) ss → AllByRecursion OwnTerm (step_terms w ss)
  unfolding step_terms
  steps_own [] h = (end_own [] false tt, tt)
  steps_own (s ∷ ss) h = (step_own s h.0, behind_own (from_of w s.guard) (step_terms w ss) (steps_own ss h.1))

  -- ---- forms

  term_own : (n : ℕ) (ts : List Content) → AllByRecursion OwnTerm ts → AllByRecursion (NamesOwn name) (flat_map term_forms (numbered n ts))
  unfolding numbered
  term_own n [] h = tt
  term_own n (t ∷ ts) h = (
    tt,
    all_append (NamesOwn name) (map (condition_form false) t.conditions ++ map (action_form false) t.actions) (flat_map term_forms (numbered (n + 1) ts))
        (all_append (NamesOwn name) (map (condition_form false) t.conditions) (map (action_form false) t.actions)
        (all_map Asks (NamesOwn name) (condition_form false) (λ c k. k) t.conditions h.0.conditions)
        (all_map Does (NamesOwn name) (action_form false) (λ a k. k) t.actions h.0.actions))
        (term_own (n + 1) ts h.1),
  )

  policy_own : (label : List ℕ) (ts : List Content) → AllByRecursion OwnTerm ts → AllByRecursion (NamesOwn name) (option_forms (policy_of label ts))
  policy_own label ts h = (tt, term_own 1 ts h)

  definitions_own : {D : Type 0} (define : ℕ → D → PolicyOption) (P : D → Type 0) → ((n : ℕ) (d : D) → P d → AllByRecursion (NamesOwn name) (option_forms (define n d)))
      → (from : ℕ) (ds : List D) → AllByRecursion P ds → AllByRecursion (NamesOwn name) (forms_of (defined_from define from ds))
  unfolding defined_from
  definitions_own define P each from [] h = tt
  definitions_own define P each from (d ∷ ds) h =
      all_append (NamesOwn name) (option_forms (define from d)) (forms_of (defined_from define (from + 1) ds)) (each from d h.0) (definitions_own define P each (from + 1) ds h.1)

  join_own : (xs ys : List PolicyOption) → AllByRecursion (NamesOwn name) (forms_of xs) → AllByRecursion (NamesOwn name) (forms_of ys) → AllByRecursion (NamesOwn name) (forms_of (xs ++ ys))
  join_own xs ys h k = subst (AllByRecursion (NamesOwn name)) (sym (options_join xs ys)) (all_append (NamesOwn name) (forms_of xs) (forms_of ys) h k)

  anything : {D : Type 0} (ds : List D) → AllByRecursion (λ d. Unit {0}) ds
  anything [] = tt
  anything (d ∷ ds) = (tt, anything ds)

pub used_names : (name : List ℕ) (defs : Definitions) (w : Writing) (steps : List PlannedStep) → NamesDefinitions name defs w steps → AllByRecursion (NamesOwn name) (forms_of (options_of name defs w steps))
used_names name defs w steps named =
    let last : List PolicyOption = policy_of name (step_terms w steps) ∷ [] in
    let third : List PolicyOption = defined_from (define_subroutine name w) 0 defs.subroutines ++ last in
    let second : List PolicyOption = defined_from (define_community name) 0 defs.communities ++ third in
    let at_last : AllByRecursion (NamesOwn name) (forms_of last) =
    all_append (NamesOwn name) (option_forms (policy_of name (step_terms w steps))) [] (policy_own name defs w name (step_terms w steps) (steps_own name defs w steps named.steps)) tt in
    join_own name defs w (defined_from (define_path name) 0 defs.paths) second
    (definitions_own name defs w (define_path name) (λ d. Unit {0}) (λ n d h. (tt, tt)) 0 defs.paths (anything name defs w defs.paths))
    (join_own name defs w (defined_from (define_community name) 0 defs.communities) third
    (definitions_own name defs w (define_community name) (λ d. Unit {0}) (λ n d h. (tt, tt)) 0 defs.communities (anything name defs w defs.communities))
    (join_own name defs w (defined_from (define_subroutine name w) 0 defs.subroutines) last
    (definitions_own name defs w (define_subroutine name w) (NamesInSubroutine name defs w) (λ n s h. policy_own name defs w (subroutine_name name n) (subroutine_terms w s) (subroutine_own name defs w s h)) 0 defs.subroutines named.subroutines)
    at_last))
