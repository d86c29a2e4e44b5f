-- The conditions of a guard may stand in one `from`, where they are of different kinds and their prefixes are apart; and what
-- they name is defined.
use Rattle.std.proofs.Common.{◌≡◌, refl, sym, ap, ◌∙◌, ℕ, ◌-◌, ◌/◌, ◌^◌, Bool, true, false, ◌&&◌, ◌||◌, not, ◌==◌, List, [], ◌∷◌, ◌++◌, map, Option, None, arith}
use Rattle.std.specs.List.{AllByRecursion, IsDistinct, flat_map, list_any}
use Rattle.std.proofs.lemmas.Bool.{and_parts, eqb-true, eq-eqb, le-leb, false_from_ne_true}
use Rattle.route_types.specs.Address.{PrefixParts, contains, width, same_family}
use Rattle.route_types.specs.Community.{RectParts}
use Rattle.route_types.specs.declared.address.Family.{Family}
use Rattle.route_types.specs.declared.address.Family.TheVariants.{V4, V6}
use Rattle.prefix_sets.specs.Range.{RangeParts}
use Rattle.junos_tree.specs.declared.item.Condition.{Condition}
use Rattle.junos_tree.specs.declared.item.Condition.TheVariants.{Community as CommunityLine, AsPath as PathLine, NextHop as HopLine, Policy as CallLine, RouteFilter, Metric as MedLine, LocalPreference as PreferenceLine, Origin as OriginLine}
use Rattle.junos_tree.specs.declared.item.StatementSort.TheVariants.{Community as CommunitySort, AsPath as PathSort, Policy as PolicySort}
use Rattle.junos_reader.specs.Facts.{Facts}
use Rattle.junos_reader.specs.Forms.{kind_of_condition, is_kind, filter_of_condition, is_prefix, same_prefix}
use Rattle.junos_reader.specs.Statements.{named_by_condition}
use Rattle.junos_plans.specs.Apart.{meets, AreApart}
use Rattle.junos_plans.specs.Fits.{FitsCondition, FitsGuard, kind_of, same_kind}
use Rattle.junos_plans.specs.declared.condition.PlannedCondition.{PlannedCondition}
use Rattle.junos_plans.specs.declared.condition.PlannedCondition.TheVariants.{Anything, Destination, NextHop, Path, Communities, Med, LocalPreference, Origin}
use Rattle.junos_plans.specs.declared.condition.PlannedList.{PlannedList}
use Rattle.junos_plans.specs.declared.condition.PlannedTest.{PlannedTest}
use Rattle.junos_plans.specs.declared.condition.PlannedTest.TheVariants.{Asked, Listed}
use Rattle.junos_plans.specs.declared.step.PlannedGuard.{PlannedGuard}
use Rattle.junos_plans.specs.declared.step.PlannedLiteral.{PlannedLiteral}
use Rattle.junos_layout.specs.Options.{Definitions}
use Rattle.junos_layout.specs.Terms.{condition_lines, call_of, test_lines, one_literal, literal_lines, from_of}
use Rattle.junos_layout.specs.Uses.{test_conditions, test_calls, one_call, guard_calls, NamesPath, NamesSet, NamesCall, NamesCondition}
use Rattle.junos_layout.specs.Writing.{Subroutine, OfList, AllOf, Writing}
use Rattle.junos_layout.proofs.Walk.{AreDefined}
use Rattle.junos_layout.proofs.TermWalk.{clash, HasOneWay}

-- ---- lists

pub all_join : {A : Type 0} (P : A → Type 0) (xs ys : List A) → AllByRecursion P xs → AllByRecursion P ys → AllByRecursion P (xs ++ ys)
all_join P [] ys h k = k
all_join P (x ∷ xs) ys h k = (h.0, all_join P xs ys h.1 k)

distinct_join : {A : Type 0} (f : A → A → Bool) (xs ys : List A) → IsDistinct f xs → IsDistinct f ys → AllByRecursion (λ x. AllByRecursion (λ y. f x y ≡ false) ys) xs → IsDistinct f (xs ++ ys)
unfolding IsDistinct
distinct_join f [] ys h k l = k
distinct_join f (x ∷ xs) ys h k l = (all_join (λ y. f x y ≡ false) xs ys h.0 l.0, distinct_join f xs ys h.1 k l.1)

-- ---- conditions of two kinds

module _ (w : Writing) where
  -- each line of a condition
  abbrev EachLine : (Condition → Type 0) → PlannedCondition → Type 0
  EachLine P c = AllByRecursion P (condition_lines w c)

  each_filter : (P : Condition → Type 0) → ((x : RangeParts) → P (RouteFilter x)) → (xs : List RangeParts) → AllByRecursion P (map (λ x. RouteFilter x) xs)
  each_filter P h [] = tt
  each_filter P h (x ∷ xs) = (h x, each_filter P h xs)

  abbrev IsNot : ℕ → Condition → Type 0
  IsNot k x = is_kind k (kind_of_condition x) ≡ false

  no_med : (c : PlannedCondition) → (kind_of c == 5) ≡ false → EachLine (IsNot 0) c
  no_med Anything e = tt
  no_med (Destination xs) e = each_filter (IsNot 0) (λ x. refl) xs
  no_med (NextHop hops) e = (refl, tt)
  no_med (Path texts) e = (refl, tt)
  no_med (Communities sets) e = (refl, tt)
  no_med (Med n) e = absurd cc
  no_med (LocalPreference n) e = (refl, tt)
  no_med (Origin o) e = (refl, tt)

  no_preference : (c : PlannedCondition) → (kind_of c == 6) ≡ false → EachLine (IsNot 1) c
  no_preference Anything e = tt
  no_preference (Destination xs) e = each_filter (IsNot 1) (λ x. refl) xs
  no_preference (NextHop hops) e = (refl, tt)
  no_preference (Path texts) e = (refl, tt)
  no_preference (Communities sets) e = (refl, tt)
  no_preference (Med n) e = (refl, tt)
  no_preference (LocalPreference n) e = absurd cc
  no_preference (Origin o) e = (refl, tt)

  no_origin : (c : PlannedCondition) → (kind_of c == 7) ≡ false → EachLine (IsNot 2) c
  no_origin Anything e = tt
  no_origin (Destination xs) e = each_filter (IsNot 2) (λ x. refl) xs
  no_origin (NextHop hops) e = (refl, tt)
  no_origin (Path texts) e = (refl, tt)
  no_origin (Communities sets) e = (refl, tt)
  no_origin (Med n) e = (refl, tt)
  no_origin (LocalPreference n) e = (refl, tt)
  no_origin (Origin o) e = absurd cc

  no_filter : (c : PlannedCondition) → (kind_of c == 1) ≡ false → EachLine (λ x. filter_of_condition x ≡ None) c
  no_filter Anything e = tt
  no_filter (Destination xs) e = absurd cc
  no_filter (NextHop hops) e = (refl, tt)
  no_filter (Path texts) e = (refl, tt)
  no_filter (Communities sets) e = (refl, tt)
  no_filter (Med n) e = (refl, tt)
  no_filter (LocalPreference n) e = (refl, tt)
  no_filter (Origin o) e = (refl, tt)

  -- what a line keeps out
  any_apart : (xs : List Condition) (y : Condition) → ((x : Condition) → clash x y ≡ false) → AllByRecursion (λ x. clash x y ≡ false) xs
  any_apart [] y h = tt
  any_apart (x ∷ xs) y h = (h x, any_apart xs y h)

  med_apart : (xs : List Condition) (n : ℕ) → AllByRecursion (IsNot 0) xs → AllByRecursion (λ x. AllByRecursion (λ y. clash x y ≡ false) (MedLine n ∷ [])) xs
  med_apart [] n h = tt
  med_apart (x ∷ xs) n h = ((ap (λ (b : Bool). b || false) h.0, tt), med_apart xs n h.1)

  preference_apart : (xs : List Condition) (n : ℕ) → AllByRecursion (IsNot 1) xs → AllByRecursion (λ x. AllByRecursion (λ y. clash x y ≡ false) (PreferenceLine n ∷ [])) xs
  preference_apart [] n h = tt
  preference_apart (x ∷ xs) n h = ((ap (λ (b : Bool). b || false) h.0, tt), preference_apart xs n h.1)

  origin_apart : (xs : List Condition) (o : _) → AllByRecursion (IsNot 2) xs → AllByRecursion (λ x. AllByRecursion (λ y. clash x y ≡ false) (OriginLine o ∷ [])) xs
  origin_apart [] o h = tt
  origin_apart (x ∷ xs) o h = ((ap (λ (b : Bool). b || false) h.0, tt), origin_apart xs o h.1)

  filters_apart : (xs : List Condition) (rs : List RangeParts) → AllByRecursion (λ x. filter_of_condition x ≡ None) xs
      → AllByRecursion (λ x. AllByRecursion (λ y. clash x y ≡ false) (map (λ r. RouteFilter r) rs)) xs
  filters_apart [] rs h = tt
  filters_apart (x ∷ xs) rs h = (each rs, filters_apart xs rs h.1)
    where
      each : (qs : List RangeParts) → AllByRecursion (λ y. clash x y ≡ false) (map (λ r. RouteFilter r) qs)
      each [] = tt
      each (q ∷ qs) = (ap (λ (o : Option PrefixParts). is_prefix q.prefix o) h.0, each qs)

  beside_one : (xs : List Condition) (y : Condition) → ((x : Condition) → clash x y ≡ false) → AllByRecursion (λ x. AllByRecursion (λ z. clash x z ≡ false) (y ∷ [])) xs
  beside_one [] y h = tt
  beside_one (x ∷ xs) y h = ((h x, tt), beside_one xs y h)

  beside_none : (xs : List Condition) → AllByRecursion (λ x. AllByRecursion (λ z. clash x z ≡ false) []) xs
  beside_none [] = tt
  beside_none (x ∷ xs) = (tt, beside_none xs)

  kinds_apart : (c d : PlannedCondition) → same_kind c d ≡ false → AllByRecursion (λ x. AllByRecursion (λ y. clash x y ≡ false) (condition_lines w d)) (condition_lines w c)
  kinds_apart c Anything e = beside_none (condition_lines w c)
  kinds_apart c (Destination rs) e = filters_apart (condition_lines w c) rs (no_filter c e)
  kinds_apart c (NextHop hops) e = beside_one (condition_lines w c) (HopLine hops) (λ x. refl)
  kinds_apart c (Path texts) e = beside_one (condition_lines w c) (PathLine (map w.path texts)) (λ x. refl)
  kinds_apart c (Communities sets) e = beside_one (condition_lines w c) (CommunityLine (map w.community sets)) (λ x. refl)
  kinds_apart c (Med n) e = med_apart (condition_lines w c) n (no_med c e)
  kinds_apart c (LocalPreference n) e = preference_apart (condition_lines w c) n (no_preference c e)
  kinds_apart c (Origin o) e = origin_apart (condition_lines w c) o (no_origin c e)

  -- ---- lines of one condition

  -- one prefix contains the other, where they are the same
  same_contains : (p q : PrefixParts) → same_prefix q p ≡ true → contains p q ≡ true
  same_contains p q e =
      let one = and_parts ((width q.address.family == width p.address.family) && (q.address.bits == p.address.bits)) (q.length == p.length) e in
      let two = and_parts (width q.address.family == width p.address.family) (q.address.bits == p.address.bits) one.0 in
      let bits : q.address.bits ≡ p.address.bits = eqb-true q.address.bits p.address.bits two.1 in
      let length : q.length ≡ p.length = eqb-true q.length p.length one.1 in
      let block = 2 ^ (width p.address.family - p.length) in
      rw (families p.address.family q.address.family two.0, le-leb p.length q.length (omega (arith, length)), eq-eqb (p.address.bits / block) (q.address.bits / block) (ap (λ (n : ℕ). n / block) (sym bits))) refl
    where
      families : (f g : Family) → (width g == width f) ≡ true → same_family f g ≡ true
      families V4 V4 h = refl
      families V6 V6 h = refl
      families V4 V6 h = absurd cc
      families V6 V4 h = absurd cc

  either_none : (a b : Bool) → (a || b) ≡ false → a ≡ false
  either_none false b e = refl
  either_none true b e = absurd cc

  not_same : (x y : RangeParts) → meets x y ≡ false → same_prefix y.prefix x.prefix ≡ false
  not_same x y e = false_from_ne_true (same_prefix y.prefix x.prefix) (λ s.
      let there = same_contains x.prefix y.prefix s in
      let none = either_none (contains x.prefix y.prefix) (contains y.prefix x.prefix) e in
      absurd cc)

  filter_from : (x : RangeParts) (ys : List RangeParts) → AllByRecursion (λ y. meets x y ≡ false) ys → AllByRecursion (λ y. clash (RouteFilter x) y ≡ false) (map (λ y. RouteFilter y) ys)
  filter_from x [] h = tt
  filter_from x (y ∷ ys) h = (not_same x y h.0, filter_from x ys h.1)

  filters_distinct : (xs : List RangeParts) → AreApart xs → IsDistinct clash (map (λ x. RouteFilter x) xs)
  unfolding IsDistinct
  filters_distinct [] h = tt
  filters_distinct (x ∷ xs) h = (filter_from x xs h.0, filters_distinct xs h.1)

  pub lines_distinct : (c : PlannedCondition) → FitsCondition c → IsDistinct clash (condition_lines w c)
  unfolding IsDistinct
  lines_distinct Anything h = tt
  lines_distinct (Destination xs) h = filters_distinct xs h.1
  lines_distinct (NextHop hops) h = (tt, tt)
  lines_distinct (Path texts) h = (tt, tt)
  lines_distinct (Communities sets) h = (tt, tt)
  lines_distinct (Med n) h = (tt, tt)
  lines_distinct (LocalPreference n) h = (tt, tt)
  lines_distinct (Origin o) h = (tt, tt)

  -- ---- lines of several conditions

  each_join : (xs ys zs : List Condition) → AllByRecursion (λ x. AllByRecursion (λ y. clash x y ≡ false) ys) xs → AllByRecursion (λ x. AllByRecursion (λ y. clash x y ≡ false) zs) xs
      → AllByRecursion (λ x. AllByRecursion (λ y. clash x y ≡ false) (ys ++ zs)) xs
  each_join [] ys zs h k = tt
  each_join (x ∷ xs) ys zs h k = (all_join (λ y. clash x y ≡ false) ys zs h.0 k.0, each_join xs ys zs h.1 k.1)

  one_beside : (c : PlannedCondition) (ds : List PlannedCondition) → AllByRecursion (λ d. same_kind c d ≡ false) ds
      → AllByRecursion (λ x. AllByRecursion (λ y. clash x y ≡ false) (flat_map (condition_lines w) ds)) (condition_lines w c)
  one_beside c [] h = beside_none (condition_lines w c)
  one_beside c (d ∷ ds) h = each_join (condition_lines w c) (condition_lines w d) (flat_map (condition_lines w) ds) (kinds_apart c d h.0) (one_beside c ds h.1)

  all_distinct : (cs : List PlannedCondition) → AllByRecursion FitsCondition cs → IsDistinct same_kind cs → IsDistinct clash (flat_map (condition_lines w) cs)
  unfolding IsDistinct
  all_distinct [] h k = tt
  all_distinct (c ∷ cs) h k = distinct_join clash (condition_lines w c) (flat_map (condition_lines w) cs) (lines_distinct c h.0) (all_distinct cs h.1 k.1) (one_beside c cs k.0)

  call_beside : (xs : List Condition) (test : PlannedTest) (wanted : Bool) → AllByRecursion (λ x. AllByRecursion (λ z. clash x z ≡ false) (one_literal w test wanted)) xs
  call_beside xs (Listed ls) true = beside_one xs (call_of w ls) (λ x. refl)
  call_beside xs (Listed ls) false = beside_one xs (CallLine (w.subroutine (AllOf (record { test = Listed ls; wanted = false } ∷ [])) ∷ [])) (λ x. refl)
  call_beside xs (Asked c) wanted = beside_one xs (CallLine (w.subroutine (AllOf (record { test = Asked c; wanted = wanted } ∷ [])) ∷ [])) (λ x. refl)

  calls_beside : (xs : List Condition) (ls : List PlannedLiteral) → AllByRecursion (λ x. AllByRecursion (λ z. clash x z ≡ false) (literal_lines w ls)) xs
  calls_beside xs [] = beside_none xs
  calls_beside xs (l ∷ []) = call_beside xs l.test l.wanted
  calls_beside xs (l ∷ m ∷ ls) = beside_one xs (CallLine (w.subroutine (AllOf (l ∷ m ∷ ls)) ∷ [])) (λ x. refl)

  one_distinct : (test : PlannedTest) (wanted : Bool) → IsDistinct clash (one_literal w test wanted)
  unfolding IsDistinct
  one_distinct (Listed ls) true = (tt, tt)
  one_distinct (Listed ls) false = (tt, tt)
  one_distinct (Asked c) wanted = (tt, tt)

  calls_distinct : (ls : List PlannedLiteral) → IsDistinct clash (literal_lines w ls)
  unfolding IsDistinct
  calls_distinct [] = tt
  calls_distinct (l ∷ []) = one_distinct l.test l.wanted
  calls_distinct (l ∷ m ∷ ls) = (tt, tt)

  pub from_distinct : (g : PlannedGuard) → FitsGuard g → IsDistinct clash (from_of w g)
  from_distinct g h =
      distinct_join clash (flat_map (condition_lines w) g.conditions) (literal_lines w g.literals)
      (all_distinct g.conditions h.conditions h.different) (calls_distinct g.literals) (calls_beside (flat_map (condition_lines w) g.conditions) g.literals)

  -- ---- one way

  pub lines_one_way : (c : PlannedCondition) → AllByRecursion HasOneWay (condition_lines w c)
  lines_one_way Anything = tt
  lines_one_way (Destination xs) = each_filter HasOneWay (λ x. tt) xs
  lines_one_way (NextHop hops) = (tt, tt)
  lines_one_way (Path texts) = (tt, tt)
  lines_one_way (Communities sets) = (tt, tt)
  lines_one_way (Med n) = (tt, tt)
  lines_one_way (LocalPreference n) = (tt, tt)
  lines_one_way (Origin o) = (tt, tt)

  all_one_way : (cs : List PlannedCondition) → AllByRecursion HasOneWay (flat_map (condition_lines w) cs)
  all_one_way [] = tt
  all_one_way (c ∷ cs) = all_join HasOneWay (condition_lines w c) (flat_map (condition_lines w) cs) (lines_one_way c) (all_one_way cs)

  one_literal_way : (test : PlannedTest) (wanted : Bool) → AllByRecursion HasOneWay (one_literal w test wanted)
  one_literal_way (Listed ls) true = (tt, tt)
  one_literal_way (Listed ls) false = (tt, tt)
  one_literal_way (Asked c) wanted = (tt, tt)

  literals_way : (ls : List PlannedLiteral) → AllByRecursion HasOneWay (literal_lines w ls)
  literals_way [] = tt
  literals_way (l ∷ []) = one_literal_way l.test l.wanted
  literals_way (l ∷ m ∷ ls) = (tt, tt)

  pub from_one_way : (g : PlannedGuard) → AllByRecursion HasOneWay (from_of w g)
  from_one_way g = all_join HasOneWay (flat_map (condition_lines w) g.conditions) (literal_lines w g.literals) (all_one_way g.conditions) (literals_way g.literals)

-- ---- what conditions name

-- what is named by a definition is defined
pub record KnowsNames (facts : Facts) (name : List ℕ) (defs : Definitions) (w : Writing) : Type 0 where
  pub paths : (text : List ℕ) → NamesPath name defs w text → facts.defined PathSort (w.path text) ≡ true
  pub sets : (members : List RectParts) → NamesSet name defs w members → facts.defined CommunitySort (w.community members) ≡ true
  pub calls : (s : Subroutine) → NamesCall name defs w s → facts.defined PolicySort (w.subroutine s) ≡ true

module _ (facts : Facts) (name : List ℕ) (defs : Definitions) (w : Writing) (knows : KnowsNames facts name defs w) where
  abbrev Known : Condition → Type 0
  Known c = AreDefined facts (named_by_condition c)

  paths_known : (texts : List (List ℕ)) → AllByRecursion (NamesPath name defs w) texts → list_any (λ q. not (facts.defined PathSort q)) (map w.path texts) ≡ false
  paths_known [] h = refl
  paths_known (t ∷ ts) h = ap (λ (b : Bool). not b || list_any (λ q. not (facts.defined PathSort q)) (map w.path ts)) (knows.paths t h.0) ∙ paths_known ts h.1

  sets_known : (sets : List (List RectParts)) → AllByRecursion (NamesSet name defs w) sets → list_any (λ q. not (facts.defined CommunitySort q)) (map w.community sets) ≡ false
  sets_known [] h = refl
  sets_known (s ∷ ss) h = ap (λ (b : Bool). not b || list_any (λ q. not (facts.defined CommunitySort q)) (map w.community ss)) (knows.sets s h.0) ∙ sets_known ss h.1

  pub lines_known : (c : PlannedCondition) → NamesCondition name defs w c → AllByRecursion Known (condition_lines w c)
  lines_known Anything h = tt
  lines_known (Destination xs) h = each_filter w Known (λ x. refl) xs
  lines_known (NextHop hops) h = (refl, tt)
  lines_known (Path texts) h = (paths_known texts h.0, tt)
  lines_known (Communities sets) h = (sets_known sets h.1, tt)
  lines_known (Med n) h = (refl, tt)
  lines_known (LocalPreference n) h = (refl, tt)
  lines_known (Origin o) h = (refl, tt)

  all_known : (cs : List PlannedCondition) → AllByRecursion (NamesCondition name defs w) cs → AllByRecursion Known (flat_map (condition_lines w) cs)
  all_known [] h = tt
  all_known (c ∷ cs) h = all_join Known (condition_lines w c) (flat_map (condition_lines w) cs) (lines_known c h.0) (all_known cs h.1)

  pub call_known : (s : Subroutine) → NamesCall name defs w s → Known (CallLine (w.subroutine s ∷ []))
  call_known s h = ap (λ (b : Bool). not b || false) (knows.calls s h)

  lists_known : (ls : List PlannedList) → AllByRecursion (NamesCall name defs w) (map (λ l. OfList l) ls) → list_any (λ q. not (facts.defined PolicySort q)) (map (λ l. w.subroutine (OfList l)) ls) ≡ false
  lists_known [] h = refl
  lists_known (l ∷ ls) h = ap (λ (b : Bool). not b || list_any (λ q. not (facts.defined PolicySort q)) (map (λ m. w.subroutine (OfList m)) ls)) (knows.calls (OfList l) h.0) ∙ lists_known ls h.1

  pub test_known : (test : PlannedTest) → AllByRecursion (NamesCondition name defs w) (test_conditions test) → AllByRecursion (NamesCall name defs w) (test_calls test) → AllByRecursion Known (test_lines w test)
  test_known (Asked c) h k = lines_known c h.0
  test_known (Listed ls) h k = (lists_known ls k, tt)

  one_known : (test : PlannedTest) (wanted : Bool) → AllByRecursion (NamesCall name defs w) (one_call test wanted) → AllByRecursion Known (one_literal w test wanted)
  one_known (Listed ls) true k = (lists_known ls k, tt)
  one_known (Listed ls) false k = (call_known (AllOf (record { test = Listed ls; wanted = false } ∷ [])) k.0, tt)
  one_known (Asked c) wanted k = (call_known (AllOf (record { test = Asked c; wanted = wanted } ∷ [])) k.0, tt)

  calls_known : (ls : List PlannedLiteral) → AllByRecursion (NamesCall name defs w) (guard_calls ls) → AllByRecursion Known (literal_lines w ls)
  calls_known [] k = tt
  calls_known (l ∷ []) k = one_known l.test l.wanted k
  calls_known (l ∷ m ∷ ls) k = (call_known (AllOf (l ∷ m ∷ ls)) k.0, tt)

  pub from_known : (g : PlannedGuard) → AllByRecursion (NamesCondition name defs w) g.conditions → AllByRecursion (NamesCall name defs w) (guard_calls g.literals) → AllByRecursion Known (from_of w g)
  from_known g h k = all_join Known (flat_map (condition_lines w) g.conditions) (literal_lines w g.literals) (all_known g.conditions h) (calls_known g.literals k)
