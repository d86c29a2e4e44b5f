-- How high a policy stands: a list calls nothing, its opposite calls lists, literals call both, and the policy itself calls these.
use Rattle.std.proofs.Common.{◌≡◌, refl, sym, ap, ◌∙◌, ℕ, zero, suc, ◌+◌, ◌^◌, ◌<◌, ◌≤◌, Bool, true, false, List, [], ◌∷◌, ◌++◌, length, map, Some, arith}
use Rattle.std.specs.Prelude.{bytes_eq}
use Rattle.std.specs.List.{AllByRecursion, flat_map, slice_get}
use Rattle.junos_tree.specs.Terms.{Content}
use Rattle.junos_tree.specs.declared.item.Condition.{Condition}
use Rattle.junos_tree.specs.declared.item.Condition.TheVariants.{RouteFilter}
use Rattle.junos_reader.specs.Statements.{called_by_condition}
use Rattle.prefix_sets.specs.Range.{RangeParts}
use Rattle.junos_plans.specs.declared.condition.PlannedCondition.{PlannedCondition}
use Rattle.junos_plans.specs.declared.condition.PlannedCondition.TheVariants.{Anything, Destination, NextHop, Path, Communities, Med, LocalPreference, Origin}
use Rattle.junos_plans.specs.declared.condition.PlannedEntry.{PlannedEntry}
use Rattle.junos_plans.specs.declared.condition.PlannedList.{PlannedList}
use Rattle.junos_plans.specs.declared.condition.PlannedTest.{PlannedTest}
use Rattle.junos_plans.specs.declared.condition.PlannedTest.TheVariants.{Asked, Listed}
use Rattle.junos_plans.specs.declared.step.PlannedLiteral.{PlannedLiteral}
use Rattle.junos_plans.specs.declared.step.PlannedStep.{PlannedStep}
use Rattle.junos_layout.specs.Options.{Definitions, subroutine_name}
use Rattle.junos_layout.specs.Terms.{condition_lines, test_lines, one_literal, literal_lines, from_of, ends_by, list_terms, literal_term, subroutine_terms, behind_from, step_terms}
use Rattle.junos_layout.specs.Uses.{test_calls, literal_calls, one_call, guard_calls, NamesCall, NamesInSubroutine, NamesInStep}
use Rattle.junos_layout.specs.Writing.{Subroutine, OfList, Unless, AllOf, Writing}
use Rattle.junos_layout.proofs.Calls.{CallsLower}
use Rattle.junos_layout.proofs.FromSound.{all_join}
use Rattle.junos_layout.proofs.Names.{same_name, names_apart, subroutine_apart, within, some_injective}
use Rattle.std.specs.Prelude.{codes}

-- ---- ranks

abbrev pub level : Subroutine → ℕ
level (OfList l) = 0
level (Unless test) = 1
level (AllOf ls) = 2

-- the level of the subroutine of this name, or else that of the policy
unfoldable pub level_from : List ℕ → ℕ → List Subroutine → List ℕ → ℕ
level_from name place [] q = 3
level_from name place (s ∷ ss) q = elim (bytes_eq q (subroutine_name name place)) [ true ↦ level s | false ↦ level_from name (place + 1) ss q ]

abbrev pub rank : List ℕ → Definitions → List ℕ → ℕ
rank name defs q = level_from name 0 defs.subroutines q

level_low : (s : Subroutine) → level s ≤ 2
level_low (OfList l) = omega arith
level_low (Unless test) = omega arith
level_low (AllOf ls) = omega arith

level_bound : (name : List ℕ) (place : ℕ) (ss : List Subroutine) (q : List ℕ) → level_from name place ss q ≤ 3
unfolding level_from
level_bound name place [] q = omega arith
level_bound name place (s ∷ ss) q = one (bytes_eq q (subroutine_name name place)) (level_bound name (place + 1) ss q)
  where
    one : (b : Bool) → level_from name (place + 1) ss q ≤ 3 → (elim b [ true ↦ level s | false ↦ level_from name (place + 1) ss q ]) ≤ 3
    one true h = let low = level_low s in omega (arith, low)
    one false h = h

level_top : (name : List ℕ) (place : ℕ) (ss : List Subroutine) → level_from name place ss name ≡ 3
unfolding level_from
level_top name place [] = refl
level_top name place (s ∷ ss) = ap (λ (b : Bool). elim b [ true ↦ level s | false ↦ level_from name (place + 1) ss name ]) (subroutine_apart name place) ∙ level_top name (place + 1) ss

level_found : (name : List ℕ) (place : ℕ) (ss : List Subroutine) (n : ℕ) (s : Subroutine) → slice_get ss n ≡ Some s → place + length ss < 2 ^ 63
    → level_from name place ss (subroutine_name name (place + n)) ≡ level s
unfolding level_from
level_found name place [] n s there few = absurd cc
level_found name place (t ∷ ts) zero s there few =
    let here : place + zero ≡ place = omega arith in
    ap (λ (k : ℕ). elim (bytes_eq (subroutine_name name k) (subroutine_name name place)) [ true ↦ level t | false ↦ level_from name (place + 1) ts (subroutine_name name k) ]) here
    ∙ ap (λ (b : Bool). elim b [ true ↦ level t | false ↦ level_from name (place + 1) ts (subroutine_name name place) ]) (same_name (subroutine_name name place))
    ∙ ap level (some_injective t s there)
level_found name place (t ∷ ts) (suc n) s there few =
    let further : place + suc n ≡ place + 1 + n = omega arith in
    let inside : n < length ts = within ts n s there in
    ap (λ (k : ℕ). elim (bytes_eq (subroutine_name name k) (subroutine_name name place)) [ true ↦ level t | false ↦ level_from name (place + 1) ts (subroutine_name name k) ]) further
    ∙ ap (λ (b : Bool). elim b [ true ↦ level t | false ↦ level_from name (place + 1) ts (subroutine_name name (place + 1 + n)) ])
    (names_apart name (codes "-s") (place + 1 + n) place (omega (arith, few, inside)) (omega (arith, few)) (λ e. omega (arith, e)))
    ∙ level_found name (place + 1) ts n s there (omega (arith, few))

module _ (name : List ℕ) (defs : Definitions) (w : Writing) (few : length defs.subroutines < 2 ^ 63) where
  pub rank_bound : (q : List ℕ) → rank name defs q ≤ 3
  rank_bound q = level_bound name 0 defs.subroutines q

  pub rank_top : rank name defs name ≡ 3
  rank_top = level_top name 0 defs.subroutines

  pub rank_at : (n : ℕ) (s : Subroutine) → slice_get defs.subroutines n ≡ Some s → rank name defs (subroutine_name name n) ≡ level s
  rank_at n s there =
      let same : 0 + n ≡ n = omega arith in
      ap (λ (k : ℕ). rank name defs (subroutine_name name k)) (sym same) ∙ level_found name 0 defs.subroutines n s there (omega (arith, few))

  call_rank : (s : Subroutine) → NamesCall name defs w s → rank name defs (w.subroutine s) ≡ level s
  call_rank s (n, there, is) = ap (rank name defs) is ∙ rank_at n s there

  -- ---- what terms call

  -- the policy's level is this
  module _ (policy : List ℕ) (at : ℕ) (is : rank name defs policy ≡ at) where
    abbrev LowerCalls : Condition → Type 0
    LowerCalls c = AllByRecursion (λ q. rank name defs q < rank name defs policy) (called_by_condition c)

    -- subroutines of a lower level
    abbrev AreLower : List Subroutine → Type 0
    AreLower ss = AllByRecursion (λ s. level s < at) ss

    call_lower : (s : Subroutine) → NamesCall name defs w s → level s < at → rank name defs (w.subroutine s) < rank name defs policy
    call_lower s named low = let same = call_rank s named in omega (arith, same, low, is)

    filters_lower : (xs : List RangeParts) → AllByRecursion LowerCalls (map (λ x. RouteFilter x) xs)
    filters_lower [] = tt
    filters_lower (x ∷ xs) = (tt, filters_lower xs)

    lines_lower : (c : PlannedCondition) → AllByRecursion LowerCalls (condition_lines w c)
    lines_lower Anything = tt
    lines_lower (Destination xs) = filters_lower xs
    lines_lower (NextHop hops) = (tt, tt)
    lines_lower (Path texts) = (tt, tt)
    lines_lower (Communities sets) = (tt, tt)
    lines_lower (Med n) = (tt, tt)
    lines_lower (LocalPreference n) = (tt, tt)
    lines_lower (Origin o) = (tt, tt)

    lists_lower : (ls : List PlannedList) → AllByRecursion (NamesCall name defs w) (map (λ l. OfList l) ls) → 0 < at → AllByRecursion (λ q. rank name defs q < rank name defs policy) (map (λ l. w.subroutine (OfList l)) ls)
    lists_lower [] h low = tt
    lists_lower (l ∷ ls) h low = (call_lower (OfList l) h.0 low, lists_lower ls h.1 low)

    test_lower : (test : PlannedTest) → AllByRecursion (NamesCall name defs w) (test_calls test) → 0 < at → AllByRecursion LowerCalls (test_lines w test)
    test_lower (Asked c) h low = lines_lower c
    test_lower (Listed ls) h low = (lists_lower ls h low, tt)

    one_lower : (test : PlannedTest) (wanted : Bool) → AllByRecursion (NamesCall name defs w) (one_call test wanted) → 2 < at → AllByRecursion LowerCalls (one_literal w test wanted)
    one_lower (Listed ls) true h low = (lists_lower ls h (omega (arith, low)), tt)
    one_lower (Listed ls) false h low = ((call_lower (AllOf (record { test = Listed ls; wanted = false } ∷ [])) h.0 low, tt), tt)
    one_lower (Asked c) wanted h low = ((call_lower (AllOf (record { test = Asked c; wanted = wanted } ∷ [])) h.0 low, tt), tt)

    literals_lower : (ls : List PlannedLiteral) → AllByRecursion (NamesCall name defs w) (guard_calls ls) → 2 < at → AllByRecursion LowerCalls (literal_lines w ls)
    literals_lower [] h low = tt
    literals_lower (l ∷ []) h low = one_lower l.test l.wanted h low
    literals_lower (l ∷ m ∷ ls) h low = ((call_lower (AllOf (l ∷ m ∷ ls)) h.0 low, tt), tt)

    all_lower : (cs : List PlannedCondition) → AllByRecursion LowerCalls (flat_map (condition_lines w) cs)
    all_lower [] = tt
    all_lower (c ∷ cs) = all_join LowerCalls (condition_lines w c) (flat_map (condition_lines w) cs) (lines_lower c) (all_lower cs)

    entries_lower : (es : List PlannedEntry) → AllByRecursion (CallsLower (rank name defs) policy) (list_terms w es)
    unfolding CallsLower
    entries_lower [] = (tt, tt)
    entries_lower (e ∷ es) = (lines_lower e.condition, entries_lower es)

    one_literal_lower : (test : PlannedTest) (wanted : Bool) → AllByRecursion (NamesCall name defs w) (literal_calls (record { test = test; wanted = wanted })) → 1 < at
        → CallsLower (rank name defs) policy (literal_term w (record { test = test; wanted = wanted }))
    unfolding CallsLower
    one_literal_lower test true h low = ((call_lower (Unless test) h.0 low, tt), tt)
    one_literal_lower test false h low = test_lower test h (omega (arith, low))

    front : {A : Type 0} (P : A → Type 0) (xs ys : List A) → AllByRecursion P (xs ++ ys) → AllByRecursion P xs × AllByRecursion P ys
    front P [] ys h = (tt, h)
    front P (x ∷ xs) ys h = let more = front P xs ys h.1 in ((h.0, more.0), more.1)

    each_literal_lower : (ls : List PlannedLiteral) → AllByRecursion (NamesCall name defs w) (flat_map literal_calls ls) → 1 < at
        → AllByRecursion (CallsLower (rank name defs) policy) (map (literal_term w) ls ++ ends_by [] true ∷ [])
    unfolding CallsLower
    each_literal_lower [] h low = (tt, tt)
    each_literal_lower (l ∷ ls) h low =
        let calls = front (NamesCall name defs w) (literal_calls l) (flat_map literal_calls ls) h in
        (one_literal_lower l.test l.wanted calls.0 low, each_literal_lower ls calls.1 low)

    behind_lower : (from : List Condition) (rest : List Content) → AllByRecursion (CallsLower (rank name defs) policy) rest → AllByRecursion (CallsLower (rank name defs) policy) (behind_from from rest)
    behind_lower [] rest h = tt
    behind_lower (c ∷ cs) rest h = h

    pub steps_lower : (ss : List PlannedStep) → AllByRecursion (NamesInStep name defs w) ss → 2 < at → AllByRecursion (CallsLower (rank name defs) policy) (step_terms w ss)
    unfolding CallsLower step_terms
    steps_lower [] h low = (tt, tt)
    steps_lower (s ∷ ss) h low = (
      all_join LowerCalls (flat_map (condition_lines w) s.guard.conditions) (literal_lines w s.guard.literals) (all_lower s.guard.conditions) (literals_lower s.guard.literals h.0.calls low),
      behind_lower (from_of w s.guard) (step_terms w ss) (steps_lower ss h.1 low),
    )

  pub subroutine_lower : (n : ℕ) (s : Subroutine) → slice_get defs.subroutines n ≡ Some s → NamesInSubroutine name defs w s → AllByRecursion (CallsLower (rank name defs) (subroutine_name name n)) (subroutine_terms w s)
  unfolding CallsLower
  subroutine_lower n (OfList l) there h = entries_lower (subroutine_name name n) 0 (rank_at n (OfList l) there) l.entries
  subroutine_lower n (Unless test) there h = (test_lower (subroutine_name name n) 1 (rank_at n (Unless test) there) test h.calls (omega arith), (tt, tt))
  subroutine_lower n (AllOf ls) there h = each_literal_lower (subroutine_name name n) 2 (rank_at n (AllOf ls) there) ls h.calls (omega arith)
