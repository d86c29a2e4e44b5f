-- A table of parameters with one more of them.
use Rattle.std.proofs.Common.{◌≡◌, refl, sym, ap, ◌∙◌, subst, ℕ, zero, suc, ◌+◌, ◌<◌, ◌≤◌, ◌⊎◌, inl, inr, Bool, true, false, cond, ◌&&◌, List, [], ◌∷◌, ◌++◌, length, Option, Some, None, slice_get, arith}
use Rattle.std.specs.Borrow.{Bor}
use Rattle.std.specs.BTreeMap.{BTreeMap, UpdatesBy}
use Rattle.std.specs.Ordering.{is_eq, nat_cmp, ordering_then}
use Rattle.std.specs.Cmp.Lexicographic.{slice_cmp}
use Rattle.std.specs.declared.cmp.Ordering.{Ordering}
use Rattle.std.proofs.lemmas.Map.Text.{is_eq-slice_cmp}
use Rattle.policy_text.proofs.NameSets.{bytes_sym, both_equal, numbers_equal}
use Rattle.step_search.proofs.Closed.{get_below, get_last}
use Rattle.rpl_calls.specs.Parameters.{ParameterParts, is_parameter, is_at, last_below, last_of, earlier_of}
use Rattle.rpl_calls.specs.Table.{under_parameter, kept_at, IsTable}
use Rattle.rpl_calls.specs.declared.table.Table.{Table}

-- ---- a map under parameters

abbrev Map : Type 0
Map = BTreeMap (Bor (List ℕ) × ℕ) ℕ

abbrev order : ParameterParts → Bor (List ℕ) × ℕ → Ordering
order p k = ordering_then (slice_cmp nat_cmp p.policy k.0.now) (nat_cmp p.place k.1)

by_cond : {A : Type 0} (b : Bool) (x y : A) → cond b x y ≡ elim b [ true ↦ x | false ↦ y ]
by_cond true x y = refl
by_cond false x y = refl

pub put_under : (name : List ℕ) (place value : ℕ) (m n : Map) → UpdatesBy (λ x y. ordering_then (slice_cmp nat_cmp x.0.now y.0.now) (nat_cmp x.1 y.1)) (λ k. ordering_then (slice_cmp nat_cmp name k.0.now) (nat_cmp place k.1)) m n (Some value)
    → (q : ParameterParts) → under_parameter n q ≡ elim (is_parameter q (Some (record { policy = name; place = place }))) [ true ↦ Some value | false ↦ under_parameter m q ]
put_under name place value m n h q =
    let key : Bor (List ℕ) × ℕ = (record { ref_ptr = (0, 0); now = q.policy }, q.place) in
    let at : under_parameter n q ≡ cond (is_eq (ordering_then (slice_cmp nat_cmp name q.policy) (nat_cmp place q.place))) (Some value) (under_parameter m q) = h.0 key in
    let test : is_eq (ordering_then (slice_cmp nat_cmp name q.policy) (nat_cmp place q.place)) ≡ is_parameter q (Some (record { policy = name; place = place })) =
    both_equal (slice_cmp nat_cmp name q.policy) (nat_cmp place q.place) ∙ (λ j. (is_eq-slice_cmp name q.policy ∙ bytes_sym name q.policy) j && numbers_equal place q.place j) in
    at ∙ ap (λ (b : Bool). cond b (Some value) (under_parameter m q)) test ∙ by_cond (is_parameter q (Some (record { policy = name; place = place }))) (Some value) (under_parameter m q)

-- ---- a table with one more

pub none_told : (ps : List (Option ParameterParts)) (table : Table) → ((p : ParameterParts) → under_parameter table.last.entries p ≡ None) → length table.earlier.items ≡ 0 → IsTable ps table 0
unfolding last_below
none_told ps table none count = record { last = none; earlier = λ m below. absurd (omega arith); count = count }

module _ (ps : List (Option ParameterParts)) (n : ℕ) (old new : Table) (o : Option ParameterParts) (told : IsTable ps old n) (is : slice_get ps n ≡ Some o) (before : Option ℕ) (before_is : before ≡ last_of o ps n)
    (earlier : new.earlier.items ≡ old.earlier.items ++ before ∷ []) where
  at_earlier : (m : ℕ) → m < suc n → slice_get (old.earlier.items ++ before ∷ []) m ≡ Some (earlier_of ps m)
  at_earlier m below = elim (split m below) [
    | inl lower ↦ get_below old.earlier.items (before ∷ []) m (omega (arith, told.count, lower)) ∙ told.earlier m lower
    | inr same ↦ ap (λ (k : ℕ). slice_get (old.earlier.items ++ before ∷ []) k) (same ∙ sym told.count) ∙ get_last old.earlier.items before ∙ ap (λ (b : Option ℕ). Some b) (before_is ∙ sym (here m same))
  ]
    where
      split : (m : ℕ) → m < suc n → (m < n) ⊎ (m ≡ n)
      split m below = grind arith

      here : (m : ℕ) → m ≡ n → earlier_of ps m ≡ last_of o ps n
      here m same = ap (λ (k : ℕ). earlier_of ps k) same ∙ ap (λ (p : Option (Option ParameterParts)). elim p [ None ↦ None | Some r ↦ last_of r ps n ]) is

  count : length (old.earlier.items ++ before ∷ []) ≡ suc n
  count = one_more old.earlier.items ∙ ap suc told.count
    where
      one_more : (xs : List (Option ℕ)) → length (xs ++ before ∷ []) ≡ suc (length xs)
      one_more [] = refl
      one_more (y ∷ xs) = ap suc (one_more xs)

  pub added : ((p : ParameterParts) → under_parameter new.last.entries p ≡ elim (is_parameter p o) [ true ↦ Some (length old.earlier.items) | false ↦ under_parameter old.last.entries p ]) → IsTable ps new (n + 1)
  unfolding last_below
  added last = subst (λ (k : ℕ). IsTable ps new k) (omega arith) (record {
    last = λ p. last p
        ∙ ap (λ (k : ℕ). elim (is_parameter p o) [ true ↦ Some k | false ↦ under_parameter old.last.entries p ]) told.count
        ∙ ap (λ (v : Option ℕ). elim (is_parameter p o) [ true ↦ Some n | false ↦ v ]) (told.last p)
        ∙ ap (λ (b : Bool). elim b [ true ↦ Some n | false ↦ last_below p ps n ]) (sym (here p));
    earlier = λ m below. ap (λ (xs : List (Option ℕ)). slice_get xs m) earlier ∙ at_earlier m below;
    count = ap length earlier ∙ count;
  })
    where
      here : (p : ParameterParts) → is_at p ps n ≡ is_parameter p o
      here p = ap (λ (q : Option (Option ParameterParts)). elim q [ None ↦ false | Some r ↦ is_parameter p r ]) is

-- where no parameter stands the last ones stay
pub none_added : (ps : List (Option ParameterParts)) (n : ℕ) (old new : Table) → IsTable ps old n → slice_get ps n ≡ Some None → ((p : ParameterParts) → under_parameter new.last.entries p ≡ under_parameter old.last.entries p)
    → new.earlier.items ≡ old.earlier.items ++ None ∷ [] → IsTable ps new (n + 1)
none_added ps n old new told is last earlier = added ps n old new None told is None refl earlier last

pub before_is : (ps : List (Option ParameterParts)) (table : Table) (place : ℕ) → IsTable ps table (length ps) → kept_at table.earlier.items place ≡ earlier_of ps place
before_is ps table place told = at (slice_get ps place) refl
  where
    kept_of : Option (Option ℕ) → Option ℕ
    kept_of o = elim o [ None ↦ None | Some b ↦ b ]

    beyond : {A : Type 0} (xs : List A) (n : ℕ) → length xs ≤ n → slice_get xs n ≡ None
    beyond [] n long = refl
    beyond (x ∷ xs) zero long = absurd (omega arith)
    beyond (x ∷ xs) (suc n) long = beyond xs n (omega (arith, long))

    within : {A : Type 0} (xs : List A) (n : ℕ) (x : A) → slice_get xs n ≡ Some x → n < length xs
    within [] n x e = absurd cc
    within (y ∷ xs) zero x e = omega arith
    within (y ∷ xs) (suc n) x e = let less = within xs n x e in omega (arith, less)

    not_within : {A : Type 0} (xs : List A) (n : ℕ) → slice_get xs n ≡ None → length xs ≤ n
    not_within [] n e = omega arith
    not_within (y ∷ xs) zero e = absurd cc
    not_within (y ∷ xs) (suc n) e = let long = not_within xs n e in omega (arith, long)

    at : (o : Option (Option ParameterParts)) → slice_get ps place ≡ o → kept_at table.earlier.items place ≡ earlier_of ps place
    at None is =
        let long = not_within ps place is in
        ap kept_of (beyond table.earlier.items place (omega (arith, long, told.count))) ∙ sym (ap (λ (p : Option (Option ParameterParts)). elim p [ None ↦ None | Some r ↦ last_of r ps place ]) is)
    at (Some o) is = ap kept_of (told.earlier place (within ps place o is))
