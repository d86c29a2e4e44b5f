-- Lists that contain a start and that no step leaves contain all that is found.
use Rattle.std.proofs.Common.{◌≡◌, refl, sym, ap, ◌∙◌, subst, ℕ, zero, suc, ◌+◌, ◌-◌, ◌<◌, ◌≤◌, ◌⊎◌, inl, inr, Bool, true, false, ◌||◌, if◌then◌else◌, List, [], ◌∷◌, ◌++◌, length, take, drop, get_or, Option, Some, None, slice_get, arith}
use Rattle.std.proofs.lemmas.List.{take_all, append-nil}
use Rattle.std.proofs.lemmas.Option.{same_Some, slice_get_within}
use Rattle.std.specs.List.{flat_map, list_any}
use Rattle.indexmap.specs.IndexSet.{insert_key}
use Rattle.step_search.specs.Found.{IsIn, GrewBy, steps_from, IsFound, IsSearched}

module _ {A : Type 0} where
  pub in_left : (x : A) (xs ys : List A) → IsIn x xs → IsIn x (xs ++ ys)
  in_left x [] ys h = absurd h
  in_left x (y ∷ xs) ys (inl e) = inl e
  in_left x (y ∷ xs) ys (inr h) = inr (in_left x xs ys h)

  pub in_right : (x : A) (xs ys : List A) → IsIn x ys → IsIn x (xs ++ ys)
  in_right x [] ys h = h
  in_right x (y ∷ xs) ys h = inr (in_right x xs ys h)

  pub in_either : (x : A) (xs ys : List A) → IsIn x (xs ++ ys) → IsIn x xs ⊎ IsIn x ys
  in_either x [] ys h = inr h
  in_either x (y ∷ xs) ys (inl e) = inl (inl e)
  in_either x (y ∷ xs) ys (inr h) = elim (in_either x xs ys h) [ inl here ↦ inl (inr here) | inr there ↦ inr there ]

  -- the first of a list, or one behind it
  pub in_front : (x first : A) (rest : List A) (m : ℕ) → 1 ≤ length rest → first ≡ get_or rest 0 first → m ≡ length rest - 1 → IsIn x rest → (x ≡ first) ⊎ IsIn x (take m (drop 1 rest))
  in_front x first [] m long is len h = absurd h
  in_front x first (y ∷ rest) m long is len h = at h
    where
      at : (x ≡ y) ⊎ IsIn x rest → (x ≡ first) ⊎ IsIn x (take m rest)
      at (inl e) = inl (e ∙ sym is)
      at (inr h) = inr (subst (λ (xs : List A). IsIn x xs) (sym (take_all m rest (omega (arith, len)))) h)

  -- one at a place is in the list
  pub in_at : (x : A) (xs : List A) (n : ℕ) → slice_get xs n ≡ Some x → IsIn x xs
  in_at x [] n e = absurd cc
  in_at x (y ∷ xs) zero e = inl (sym (same_Some y x e))
  in_at x (y ∷ xs) (suc n) e = inr (in_at x xs n e)

  -- one in the list is at a place
  pub at_place : (x : A) (xs : List A) → IsIn x xs → (n : ℕ) × (slice_get xs n ≡ Some x)
  at_place x [] h = absurd h
  at_place x (y ∷ xs) (inl e) = (0, ap (λ (z : A). Some z) (sym e))
  at_place x (y ∷ xs) (inr h) = let there = at_place x xs h in (suc there.0, there.1)

  -- what stands at a place stays there when more comes behind
  pub get_left : (x : A) (xs ys : List A) (n : ℕ) → slice_get xs n ≡ Some x → slice_get (xs ++ ys) n ≡ Some x
  get_left x [] ys n e = absurd cc
  get_left x (y ∷ xs) ys zero e = e
  get_left x (y ∷ xs) ys (suc n) e = get_left x xs ys n e

  pub get_below : (xs ys : List A) (n : ℕ) → n < length xs → slice_get (xs ++ ys) n ≡ slice_get xs n
  get_below [] ys n below = absurd (omega arith)
  get_below (y ∷ xs) ys zero below = refl
  get_below (y ∷ xs) ys (suc n) below = get_below xs ys n (omega arith)

  pub get_last : (xs : List A) (y : A) → slice_get (xs ++ y ∷ []) (length xs) ≡ Some y
  get_last [] y = refl
  get_last (x ∷ xs) y = get_last xs y

module _ {A B : Type 0} (f : A → List B) where
  pub in_flat : (y : A) (x : B) (ys : List A) → IsIn y ys → IsIn x (f y) → IsIn x (flat_map f ys)
  in_flat y x [] here h = absurd here
  in_flat y x (z ∷ ys) (inl e) h = in_left x (f z) (flat_map f ys) (subst (λ (w : A). IsIn x (f w)) e h)
  in_flat y x (z ∷ ys) (inr here) h = in_right x (f z) (flat_map f ys) (in_flat y x ys here h)

  pub from_flat : (x : B) (ys : List A) → IsIn x (flat_map f ys) → (y : A) × IsIn y ys × IsIn x (f y)
  from_flat x [] h = absurd h
  from_flat x (z ∷ ys) h = elim (in_either x (f z) (flat_map f ys) h) [
    | inl here ↦ (z, inl refl, here)
    | inr there ↦ let more = from_flat x ys there in (more.0, inr more.1, more.2)
  ]

module _ {A : Type 0} (next : A → List A) (start : List A) where
  pub found_first : (x : A) → IsIn x start → IsFound next start x
  unfolding steps_from
  found_first x h = record { steps = 0; there = h }

  pub found_next : (y x : A) → IsFound next start y → IsIn x (next y) → IsFound next start x
  unfolding steps_from
  found_next y x found h = record { steps = suc found.steps; there = in_flat next y x (steps_from next start found.steps) found.there h }

  pub whole : (xs : List A) (place : ℕ) → IsSearched next start xs place → length xs ≤ place → (x : A) → IsFound next start x → IsIn x xs
  unfolding steps_from
  whole xs place searched all x found = each found.steps x found.there
    where
      each : (n : ℕ) (x : A) → IsIn x (steps_from next start n) → IsIn x xs
      each zero x h = searched.starts x h
      each (suc n) x h =
          let from = from_flat next x (steps_from next start n) h in
          let at = at_place from.0 xs (each n from.0 from.1) in
          let below = slice_get_within xs at.0 from.0 at.1 in
          searched.closed at.0 from.0 x (omega arith) at.1 from.2

  pub begun : (old xs : List A) → old ≡ [] → GrewBy old start xs → ((x : A) → IsIn x start → IsIn x xs) → IsSearched next start xs 0
  begun old xs none kept added = record {
    sound = λ x h. found_first x (kept.2 x (subst (λ (ys : List A). IsIn x ys) (kept.1 ∙ ap (λ (ys : List A). ys ++ kept.0) none) h));
    starts = added;
    closed = λ n y x below e h. absurd (omega arith);
  }

  -- one more place: what is next to the one there was added
  pub one_more : (xs more : List A) (place : ℕ) (from : A) → IsSearched next start xs place → slice_get xs place ≡ Some from
      → GrewBy xs (next from) more → ((x : A) → IsIn x (next from) → IsIn x more) → IsSearched next start more (place + 1)
  one_more xs more place from searched at kept added = record {
    sound = λ x h. elim (in_either x xs kept.0 (subst (λ (ys : List A). IsIn x ys) kept.1 h)) [
      | inl old ↦ searched.sound x old
      | inr new ↦ found_next from x (searched.sound from (in_at from xs place at)) (kept.2 x new)
    ];
    starts = λ x h. stays x (searched.starts x h);
    closed = λ n y x below e h. elim (split n below) [
      | inl before ↦ stays x (searched.closed n y x before (back n y before e) h)
      | inr here ↦ added x (subst (λ (z : A). IsIn x (next z)) (same n y here e) h)
    ];
  }
    where
      stays : (x : A) → IsIn x xs → IsIn x more
      stays x h = subst (λ (ys : List A). IsIn x ys) (sym kept.1) (in_left x xs kept.0 h)

      split : (n : ℕ) → n < place + 1 → (n < place) ⊎ (n ≡ place)
      split n below = grind arith

      within : place < length xs
      within = slice_get_within xs place from at

      back : (n : ℕ) (y : A) → n < place → slice_get more n ≡ Some y → slice_get xs n ≡ Some y
      back n y before e = sym (get_below xs kept.0 n (omega (arith, within))) ∙ ap (λ (ys : List A). slice_get ys n) (sym kept.1) ∙ e

      same : (n : ℕ) (y : A) → n ≡ place → slice_get more n ≡ Some y → y ≡ from
      same n y here e = same_Some y from (sym e ∙ ap (λ (m : ℕ). slice_get more m) here ∙ ap (λ (ys : List A). slice_get ys place) kept.1 ∙ get_left from xs kept.0 place at)

  -- the same for a row that has what is next to it
  pub one_more_row : (xs more row : List A) (place : ℕ) (from : A) → row ≡ next from → IsSearched next start xs place → slice_get xs place ≡ Some from → GrewBy xs row more
      → ((x : A) → IsIn x row → IsIn x more) → IsSearched next start more (place + 1)
  one_more_row xs more row place from e searched at kept added =
      one_more xs more place from searched at (kept.0, kept.1, λ x h. subst (λ (ys : List A). IsIn x ys) e (kept.2 x h)) (λ x h. added x (subst (λ (ys : List A). IsIn x ys) (sym e) h))

  -- where nothing stands at the place, nothing is added
  pub no_more : (xs : List A) (place : ℕ) → IsSearched next start xs place → slice_get xs place ≡ None → IsSearched next start xs (place + 1)
  no_more xs place searched none = record {
    sound = searched.sound;
    starts = searched.starts;
    closed = λ n y x below e h. elim (split n below) [
      | inl before ↦ searched.closed n y x before e h
      | inr here ↦ clash (sym e ∙ ap (λ (m : ℕ). slice_get xs m) here ∙ none)
    ];
  }
    where
      split : (n : ℕ) → n < place + 1 → (n < place) ⊎ (n ≡ place)
      split n below = grind arith

      clash : {B : Type 0} {y : A} → Some y ≡ None → B
      clash e = absurd cc

-- ---- a key that is put into a set

module _ {A : Type 0} (eq : A → A → Bool) (one : (a b : A) → eq a b ≡ true → a ≡ b) where
  any_in : (k : A) (ks : List A) → list_any (eq k) ks ≡ true → IsIn k ks
  any_in k [] e = absurd cc
  any_in k (x ∷ ks) e = at (eq k x) refl e (any_in k ks)
    where
      at : (b : Bool) → eq k x ≡ b → (b || list_any (eq k) ks) ≡ true → (list_any (eq k) ks ≡ true → IsIn k ks) → IsIn k (x ∷ ks)
      at true is e more = inl (one k x is)
      at false is e more = inr (more e)

  -- it is the one more, if it wasn't there
  pub put : (k : A) (ks more : List A) → more ≡ insert_key eq ks k → ((more ≡ ks) ⊎ (more ≡ ks ++ k ∷ [])) × IsIn k more
  put k ks more e = at (list_any (eq k) ks) refl e
    where
      at : (b : Bool) → list_any (eq k) ks ≡ b → more ≡ (if b then ks else ks ++ k ∷ []) → ((more ≡ ks) ⊎ (more ≡ ks ++ k ∷ [])) × IsIn k more
      at true is e = (inl e, subst (λ (ys : List A). IsIn k ys) (sym e) (any_in k ks is))
      at false is e = (inr e, subst (λ (ys : List A). IsIn k ys) (sym e) (in_right k ks (k ∷ []) (inl refl)))

-- ---- the keys of a list that are put into a set

module _ {A : Type 0} where
  -- the first ones are in the set, and the rest is still to be put
  pub record ArePut (old new all rest : List A) : Type 0 where
    pub kept : GrewBy old all new
    pub left : (k : A) → IsIn k rest → IsIn k all
    pub added : (k : A) → IsIn k all → IsIn k new ⊎ IsIn k rest

  pub none_put : (old all : List A) → ArePut old old all all
  none_put old all = record { kept = ([], sym (append-nil old), λ k h. absurd h); left = λ k h. h; added = λ k h. inr h }

  pub all_put : (old new all rest : List A) → ArePut old new all rest → length rest < 1 → (k : A) → IsIn k all → IsIn k new
  all_put old new all rest put short k h = elim (put.added k h) [ inl there ↦ there | inr left ↦ none rest short left ]
    where
      none : (xs : List A) → length xs < 1 → IsIn k xs → IsIn k new
      none [] short h = absurd h
      none (x ∷ xs) short h = absurd (omega arith)

  pub one_put : (old new more all rest : List A) (first : A) (m : ℕ) → 1 ≤ length rest → first ≡ get_or rest 0 first → m ≡ length rest - 1
      → ArePut old new all rest → ((more ≡ new) ⊎ (more ≡ new ++ first ∷ [])) × IsIn first more → ArePut old more all (take m (drop 1 rest))
  one_put old new more all [] first m long is len put now = absurd (omega arith)
  one_put old new more all (y ∷ rest) first m long is len put now = record {
    kept = grown now.0;
    left = λ k h. put.left k (inr (subst (λ (xs : List A). IsIn k xs) whole_rest h));
    added = λ k h. elim (put.added k h) [
      | inl there ↦ inl (stays k there now.0)
      | inr left ↦ at k left
    ];
  }
    where
      whole_rest : take m rest ≡ rest
      whole_rest = take_all m rest (omega (arith, len))

      grown : (more ≡ new) ⊎ (more ≡ new ++ first ∷ []) → GrewBy old all more
      grown (inl e) = (put.kept.0, e ∙ put.kept.1, put.kept.2)
      grown (inr e) = (
        put.kept.0 ++ first ∷ [],
        e ∙ ap (λ (xs : List A). xs ++ first ∷ []) put.kept.1 ∙ assoc old,
        λ k h. elim (in_either k put.kept.0 (first ∷ []) h) [
          | inl there ↦ put.kept.2 k there
          | inr here ↦ put.left k (inl (elim here [ inl e ↦ e ∙ is | inr none ↦ absurd none ]))
        ],
      )
        where
          assoc : (xs : List A) → (xs ++ put.kept.0) ++ first ∷ [] ≡ xs ++ (put.kept.0 ++ first ∷ [])
          assoc [] = refl
          assoc (x ∷ xs) = ap (λ (ys : List A). x ∷ ys) (assoc xs)

      stays : (k : A) → IsIn k new → (more ≡ new) ⊎ (more ≡ new ++ first ∷ []) → IsIn k more
      stays k h (inl e) = subst (λ (xs : List A). IsIn k xs) (sym e) h
      stays k h (inr e) = subst (λ (xs : List A). IsIn k xs) (sym e) (in_left k new (first ∷ []) h)

      at : (k : A) → (k ≡ y) ⊎ IsIn k rest → IsIn k more ⊎ IsIn k (take m rest)
      at k (inl e) = inl (subst (λ (z : A). IsIn z more) (is ∙ sym e) now.1)
      at k (inr h) = inr (subst (λ (xs : List A). IsIn k xs) (sym whole_rest) h)
