-- The conditions of a `from` hold where the planned ones do.
use Rattle.std.proofs.Common.{◌≡◌, refl, sym, ap, ◌∙◌, ℕ, ◌⊎◌, inl, inr, Bool, true, false, ◌&&◌, ◌||◌, not, List, [], ◌∷◌, ◌++◌, map, append_assoc}
use Rattle.std.specs.Prelude.{◌==◌}
use Rattle.std.specs.List.{AllByRecursion, flat_map, list_any, list_all}
use Rattle.std.proofs.lemmas.List.Folds.{list_any-append}
use Rattle.route_types.specs.Route.{RouteParts}
use Rattle.route_types.specs.declared.address.Address.{Address}
use Rattle.route_types.specs.declared.route.Origin.{Origin as RouteOrigin}
use Rattle.prefix_sets.specs.Range.{RangeParts}
use Rattle.junos_tree.specs.declared.item.Condition.{Condition}
use Rattle.junos_tree.specs.declared.item.Condition.TheVariants.{Community as CommunityLine, AsPath as PathLine, NextHop as HopLine, RouteFilter, Metric as MedLine, LocalPreference as PreferenceLine, Origin as OriginLine}
use Rattle.junos_tree.specs.declared.item.JunosForm.{JunosForm}
use Rattle.junos_reader.specs.Statements.{is_calling_condition}
use Rattle.junos_meaning.specs.Conditions.{is_of, kinds, one_holds, filters_in, filters_hold, call_holds, from_holds, condition_holds as line_holds}
use Rattle.junos_meaning.specs.declared.kinds.Kind.{Kind}
use Rattle.junos_meaning.specs.declared.kinds.Kind.TheVariants.{OfCommunity, OfPath, OfNextHop, OfMetric, OfLocalPreference, OfOrigin}
use Rattle.junos_plans.specs.Fits.{kind_of}
use Rattle.junos_plans.specs.declared.condition.PlannedCondition.{PlannedCondition}
use Rattle.junos_plans.specs.declared.condition.PlannedCondition.TheVariants.{Anything, Destination, NextHop, Path, Communities, Med, LocalPreference, Origin}
use Rattle.junos_layout.specs.Terms.{condition_lines}
use Rattle.junos_layout.specs.Writing.{Writing}

pub and_three : (a b c : Bool) → ((a && b) && c) ≡ (a && (b && c))
and_three true b c = refl
and_three false b c = refl

pub and_swap : (a h t : Bool) → (a && (h && t)) ≡ (h && (a && t))
and_swap true h t = refl
and_swap false true t = refl
and_swap false false t = refl

-- ---- what a line changes

abbrev pub None_is : (Condition → Bool) → List Condition → Type 0
None_is is_so xs = list_any is_so xs ≡ false

none_both : (is_so holds : Condition → Bool) (xs : List Condition) → None_is is_so xs → list_any (λ c. is_so c && holds c) xs ≡ false
none_both is_so holds [] h = refl
none_both is_so holds (x ∷ xs) h = one (is_so x) (list_any is_so xs) h (λ k. none_both is_so holds xs k) where
  one : (a b : Bool) → (a || b) ≡ false → (b ≡ false → list_any (λ c. is_so c && holds c) xs ≡ false) → ((a && holds x) || list_any (λ c. is_so c && holds c) xs) ≡ false
  one true b e more = absurd cc
  one false b e more = more e

-- a line of a kind of which there is no other
first_of_kind : (is_so holds : Condition → Bool) (x : Condition) (xs : List Condition) → is_so x ≡ true → None_is is_so xs → one_holds is_so holds (x ∷ xs) ≡ holds x
first_of_kind is_so holds x xs is none = one (is_so x) (list_any (λ c. is_so c && holds c) xs) is (none_both is_so holds xs none) where
  one : (a b : Bool) → a ≡ true → b ≡ false → (not (a || list_any is_so xs) || ((a && holds x) || b)) ≡ holds x
  one true true e f = absurd cc
  one true false e f = last (holds x) where
    last : (h : Bool) → (h || false) ≡ h
    last true = refl
    last false = refl
  one false b e f = absurd cc

no_line : (is_so holds : Condition → Bool) (xs : List Condition) → None_is is_so xs → one_holds is_so holds xs ≡ true
no_line is_so holds xs none = ap (λ (b : Bool). not b || list_any (λ c. is_so c && holds c) xs) none

-- a line of another kind
passed : (is_so holds : Condition → Bool) (x : Condition) (xs : List Condition) → is_so x ≡ false → one_holds is_so holds (x ∷ xs) ≡ one_holds is_so holds xs
passed is_so holds x xs other = ap (λ (b : Bool). not (b || list_any is_so xs) || ((b && holds x) || list_any (λ c. is_so c && holds c) xs)) other

-- ---- a row of answers, one of which is another's part

-- an answer is as before, or is this one, where there was none
abbrev Changes : (Kind → Bool) → (Kind → Bool) → Bool → Kind → Type 0
Changes f g h k = (f k ≡ g k) ⊎ ((f k ≡ h) × (g k ≡ true))

all_kept : (f g : Kind → Bool) (ks : List Kind) → AllByRecursion (Changes f g true) ks → list_all f ks ≡ list_all g ks
all_kept f g [] h = refl
all_kept f g (k ∷ ks) h = ap (λ (b : Bool). b && list_all f ks) (same h.0) ∙ ap (λ (b : Bool). g k && b) (all_kept f g ks h.1) where
  same : Changes f g true k → f k ≡ g k
  same (inl e) = e
  same (inr e) = e.0 ∙ sym e.1

abbrev SomeOf : (Kind → Type 0) → List Kind → Type 0
SomeOf P [] = ⊥
SomeOf P (k ∷ ks) = P k ⊎ SomeOf P ks

and_false : (a : Bool) → (a && false) ≡ false
and_false true = refl
and_false false = refl

one_fails : (f : Kind → Bool) (ks : List Kind) → SomeOf (λ k. f k ≡ false) ks → list_all f ks ≡ false
one_fails f [] h = absurd h
one_fails f (k ∷ ks) (inl e) = ap (λ (b : Bool). b && list_all f ks) e
one_fails f (k ∷ ks) (inr h) = ap (λ (b : Bool). f k && b) (one_fails f ks h) ∙ and_false (f k)

row_changed : (f g : Kind → Bool) (h : Bool) (ks : List Kind) → AllByRecursion (Changes f g h) ks → SomeOf (λ k. f k ≡ h) ks → list_all f ks ≡ (h && list_all g ks)
row_changed f g true ks all some = all_kept f g ks all
row_changed f g false ks all some = one_fails f ks some

-- ---- planned conditions that write no line of a kind

filters_none : (is_so : Condition → Bool) → ((x : RangeParts) → is_so (RouteFilter x) ≡ false) → (xs : List RangeParts) → None_is is_so (map (λ x. RouteFilter x) xs)
filters_none is_so other [] = refl
filters_none is_so other (x ∷ xs) = ap (λ (b : Bool). b || list_any is_so (map (λ y. RouteFilter y) xs)) (other x) ∙ filters_none is_so other xs

module _ (w : Writing) where
  pub none_OfCommunity : (d : PlannedCondition) → (4 == kind_of d) ≡ false → None_is (is_of OfCommunity) (condition_lines w d)
  none_OfCommunity Anything e = refl
  none_OfCommunity (Destination ranges) e = filters_none (is_of OfCommunity) (λ x. refl) ranges
  none_OfCommunity (NextHop hops) e = refl
  none_OfCommunity (Path texts) e = refl
  none_OfCommunity (Communities sets) e = absurd cc
  none_OfCommunity (Med n) e = refl
  none_OfCommunity (LocalPreference n) e = refl
  none_OfCommunity (Origin o) e = refl

  pub none_OfPath : (d : PlannedCondition) → (3 == kind_of d) ≡ false → None_is (is_of OfPath) (condition_lines w d)
  none_OfPath Anything e = refl
  none_OfPath (Destination ranges) e = filters_none (is_of OfPath) (λ x. refl) ranges
  none_OfPath (NextHop hops) e = refl
  none_OfPath (Path texts) e = absurd cc
  none_OfPath (Communities sets) e = refl
  none_OfPath (Med n) e = refl
  none_OfPath (LocalPreference n) e = refl
  none_OfPath (Origin o) e = refl

  pub none_OfNextHop : (d : PlannedCondition) → (2 == kind_of d) ≡ false → None_is (is_of OfNextHop) (condition_lines w d)
  none_OfNextHop Anything e = refl
  none_OfNextHop (Destination ranges) e = filters_none (is_of OfNextHop) (λ x. refl) ranges
  none_OfNextHop (NextHop hops) e = absurd cc
  none_OfNextHop (Path texts) e = refl
  none_OfNextHop (Communities sets) e = refl
  none_OfNextHop (Med n) e = refl
  none_OfNextHop (LocalPreference n) e = refl
  none_OfNextHop (Origin o) e = refl

  pub none_OfMetric : (d : PlannedCondition) → (5 == kind_of d) ≡ false → None_is (is_of OfMetric) (condition_lines w d)
  none_OfMetric Anything e = refl
  none_OfMetric (Destination ranges) e = filters_none (is_of OfMetric) (λ x. refl) ranges
  none_OfMetric (NextHop hops) e = refl
  none_OfMetric (Path texts) e = refl
  none_OfMetric (Communities sets) e = refl
  none_OfMetric (Med n) e = absurd cc
  none_OfMetric (LocalPreference n) e = refl
  none_OfMetric (Origin o) e = refl

  pub none_OfLocalPreference : (d : PlannedCondition) → (6 == kind_of d) ≡ false → None_is (is_of OfLocalPreference) (condition_lines w d)
  none_OfLocalPreference Anything e = refl
  none_OfLocalPreference (Destination ranges) e = filters_none (is_of OfLocalPreference) (λ x. refl) ranges
  none_OfLocalPreference (NextHop hops) e = refl
  none_OfLocalPreference (Path texts) e = refl
  none_OfLocalPreference (Communities sets) e = refl
  none_OfLocalPreference (Med n) e = refl
  none_OfLocalPreference (LocalPreference n) e = absurd cc
  none_OfLocalPreference (Origin o) e = refl

  pub none_OfOrigin : (d : PlannedCondition) → (7 == kind_of d) ≡ false → None_is (is_of OfOrigin) (condition_lines w d)
  none_OfOrigin Anything e = refl
  none_OfOrigin (Destination ranges) e = filters_none (is_of OfOrigin) (λ x. refl) ranges
  none_OfOrigin (NextHop hops) e = refl
  none_OfOrigin (Path texts) e = refl
  none_OfOrigin (Communities sets) e = refl
  none_OfOrigin (Med n) e = refl
  none_OfOrigin (LocalPreference n) e = refl
  none_OfOrigin (Origin o) e = absurd cc

  no_filters : (d : PlannedCondition) (xs : List Condition) → (1 == kind_of d) ≡ false → filters_in (condition_lines w d ++ xs) ≡ filters_in xs
  no_filters Anything xs e = refl
  no_filters (Destination ranges) xs e = absurd cc
  no_filters (NextHop hops) xs e = refl
  no_filters (Path texts) xs e = refl
  no_filters (Communities sets) xs e = refl
  no_filters (Med n) xs e = refl
  no_filters (LocalPreference n) xs e = refl
  no_filters (Origin o) xs e = refl

  -- the lines of conditions and what stands behind them
  abbrev pub lines : List PlannedCondition → List Condition → List Condition
  lines cs behind = flat_map (condition_lines w) cs ++ behind

  module _ (is_so : Condition → Bool) (n : ℕ) (own : (d : PlannedCondition) → (n == kind_of d) ≡ false → None_is is_so (condition_lines w d)) where
    pub none_behind : (cs : List PlannedCondition) (behind : List Condition) → AllByRecursion (λ d. (n == kind_of d) ≡ false) cs → None_is is_so behind → None_is is_so (lines cs behind)
    none_behind [] behind h none = none
    none_behind (c ∷ cs) behind h none =
        ap (λ (xs : List Condition). list_any is_so xs) (append_assoc (condition_lines w c) (flat_map (condition_lines w) cs) behind)
        ∙ list_any-append is_so (condition_lines w c) (lines cs behind)
        ∙ ap (λ (b : Bool). b || list_any is_so (lines cs behind)) (own c h.0)
        ∙ none_behind cs behind h.1 none

  pub filters_behind : (cs : List PlannedCondition) (behind : List Condition) → AllByRecursion (λ d. (1 == kind_of d) ≡ false) cs → filters_in behind ≡ [] → filters_in (lines cs behind) ≡ []
  filters_behind [] behind h none = none
  filters_behind (c ∷ cs) behind h none =
      ap filters_in (append_assoc (condition_lines w c) (flat_map (condition_lines w) cs) behind)
      ∙ no_filters c (lines cs behind) h.0
      ∙ filters_behind cs behind h.1 none

-- ---- one more condition

module _ (all : List JunosForm) (accepts : List ℕ → Bool) (r : RouteParts) where
  abbrev pub row : List Condition → Kind → Bool
  row xs kind = one_holds (is_of kind) (line_holds all r) xs

  abbrev pub rest_of : List Condition → Bool
  rest_of xs = filters_hold (filters_in xs) r.prefix && one_holds is_calling_condition (call_holds accepts) xs

  from_row : (x : Condition) (xs : List Condition) (h : Bool) → list_all (row (x ∷ xs)) kinds ≡ (h && list_all (row xs) kinds) → rest_of (x ∷ xs) ≡ rest_of xs
      → from_holds all accepts r (x ∷ xs) ≡ (h && from_holds all accepts r xs)
  unfolding from_holds
  from_row x xs h e same =
      ap (λ (b : Bool). b && rest_of (x ∷ xs)) e
      ∙ ap (λ (b : Bool). (h && list_all (row xs) kinds) && b) same
      ∙ and_three h (list_all (row xs) kinds) (rest_of xs)

  pub with_Community : (v : List (List ℕ)) (xs : List Condition) → None_is (is_of OfCommunity) xs → from_holds all accepts r (CommunityLine v ∷ xs) ≡ (line_holds all r (CommunityLine v) && from_holds all accepts r xs)
  with_Community v xs none =
      let first : row (CommunityLine v ∷ xs) OfCommunity ≡ line_holds all r (CommunityLine v) = first_of_kind (is_of OfCommunity) (line_holds all r) (CommunityLine v) xs refl none in
      let none_there : row xs OfCommunity ≡ true = no_line (is_of OfCommunity) (line_holds all r) xs none in
      from_row (CommunityLine v) xs (line_holds all r (CommunityLine v))
      (row_changed (row (CommunityLine v ∷ xs)) (row xs) (line_holds all r (CommunityLine v)) kinds (inl refl, (inr (first, none_there), (inl refl, (inl refl, (inl refl, (inl refl, (inl refl, (inl refl, (inl refl, (inl refl, tt)))))))))) (inr (inl first)))
      refl

  pub with_AsPath : (v : List (List ℕ)) (xs : List Condition) → None_is (is_of OfPath) xs → from_holds all accepts r (PathLine v ∷ xs) ≡ (line_holds all r (PathLine v) && from_holds all accepts r xs)
  with_AsPath v xs none =
      let first : row (PathLine v ∷ xs) OfPath ≡ line_holds all r (PathLine v) = first_of_kind (is_of OfPath) (line_holds all r) (PathLine v) xs refl none in
      let none_there : row xs OfPath ≡ true = no_line (is_of OfPath) (line_holds all r) xs none in
      from_row (PathLine v) xs (line_holds all r (PathLine v))
      (row_changed (row (PathLine v ∷ xs)) (row xs) (line_holds all r (PathLine v)) kinds (inl refl, (inl refl, (inr (first, none_there), (inl refl, (inl refl, (inl refl, (inl refl, (inl refl, (inl refl, (inl refl, tt)))))))))) (inr (inr (inl first))))
      refl

  pub with_NextHop : (v : List Address) (xs : List Condition) → None_is (is_of OfNextHop) xs → from_holds all accepts r (HopLine v ∷ xs) ≡ (line_holds all r (HopLine v) && from_holds all accepts r xs)
  with_NextHop v xs none =
      let first : row (HopLine v ∷ xs) OfNextHop ≡ line_holds all r (HopLine v) = first_of_kind (is_of OfNextHop) (line_holds all r) (HopLine v) xs refl none in
      let none_there : row xs OfNextHop ≡ true = no_line (is_of OfNextHop) (line_holds all r) xs none in
      from_row (HopLine v) xs (line_holds all r (HopLine v))
      (row_changed (row (HopLine v ∷ xs)) (row xs) (line_holds all r (HopLine v)) kinds (inl refl, (inl refl, (inl refl, (inr (first, none_there), (inl refl, (inl refl, (inl refl, (inl refl, (inl refl, (inl refl, tt)))))))))) (inr (inr (inr (inl first)))))
      refl

  pub with_Metric : (v : ℕ) (xs : List Condition) → None_is (is_of OfMetric) xs → from_holds all accepts r (MedLine v ∷ xs) ≡ (line_holds all r (MedLine v) && from_holds all accepts r xs)
  with_Metric v xs none =
      let first : row (MedLine v ∷ xs) OfMetric ≡ line_holds all r (MedLine v) = first_of_kind (is_of OfMetric) (line_holds all r) (MedLine v) xs refl none in
      let none_there : row xs OfMetric ≡ true = no_line (is_of OfMetric) (line_holds all r) xs none in
      from_row (MedLine v) xs (line_holds all r (MedLine v))
      (row_changed (row (MedLine v ∷ xs)) (row xs) (line_holds all r (MedLine v)) kinds (inl refl, (inl refl, (inl refl, (inl refl, (inl refl, (inl refl, (inl refl, (inr (first, none_there), (inl refl, (inl refl, tt)))))))))) (inr (inr (inr (inr (inr (inr (inr (inl first)))))))))
      refl

  pub with_LocalPreference : (v : ℕ) (xs : List Condition) → None_is (is_of OfLocalPreference) xs → from_holds all accepts r (PreferenceLine v ∷ xs) ≡ (line_holds all r (PreferenceLine v) && from_holds all accepts r xs)
  with_LocalPreference v xs none =
      let first : row (PreferenceLine v ∷ xs) OfLocalPreference ≡ line_holds all r (PreferenceLine v) = first_of_kind (is_of OfLocalPreference) (line_holds all r) (PreferenceLine v) xs refl none in
      let none_there : row xs OfLocalPreference ≡ true = no_line (is_of OfLocalPreference) (line_holds all r) xs none in
      from_row (PreferenceLine v) xs (line_holds all r (PreferenceLine v))
      (row_changed (row (PreferenceLine v ∷ xs)) (row xs) (line_holds all r (PreferenceLine v)) kinds (inl refl, (inl refl, (inl refl, (inl refl, (inl refl, (inl refl, (inl refl, (inl refl, (inr (first, none_there), (inl refl, tt)))))))))) (inr (inr (inr (inr (inr (inr (inr (inr (inl first))))))))))
      refl

  pub with_Origin : (v : RouteOrigin) (xs : List Condition) → None_is (is_of OfOrigin) xs → from_holds all accepts r (OriginLine v ∷ xs) ≡ (line_holds all r (OriginLine v) && from_holds all accepts r xs)
  with_Origin v xs none =
      let first : row (OriginLine v ∷ xs) OfOrigin ≡ line_holds all r (OriginLine v) = first_of_kind (is_of OfOrigin) (line_holds all r) (OriginLine v) xs refl none in
      let none_there : row xs OfOrigin ≡ true = no_line (is_of OfOrigin) (line_holds all r) xs none in
      from_row (OriginLine v) xs (line_holds all r (OriginLine v))
      (row_changed (row (OriginLine v ∷ xs)) (row xs) (line_holds all r (OriginLine v)) kinds (inl refl, (inl refl, (inl refl, (inl refl, (inl refl, (inl refl, (inl refl, (inl refl, (inl refl, (inr (first, none_there), tt)))))))))) (inr (inr (inr (inr (inr (inr (inr (inr (inr (inl first)))))))))))
      refl
