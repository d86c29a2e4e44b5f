-- The places of a name, one after the other.
use Rattle.std.proofs.Common.{◌≡◌, refl, sym, ap, ◌∙◌, subst, ℕ, zero, suc, ◌+◌, ◌<◌, ◌≤◌, ◌⊎◌, inl, inr, Bool, true, false, List, [], ◌∷◌, ◌++◌, length, Option, Some, None, slice_get, arith, append_assoc}
use Rattle.std.specs.Prelude.{bytes_eq, nat_lt}
use Rattle.std.proofs.lemmas.Bool.{lt-ltb, ltb-true}
use Rattle.std.proofs.lemmas.Option.{same_Some}
use Rattle.std.proofs.lemmas.Slice.Eq.{bytes_eq-Decides}
use Rattle.name_maps.specs.Under.{under}
use Rattle.step_search.specs.Tables.{is_at, places_below, places_in, last_below, earlier_of, kept_below, IsTable}
use Rattle.step_search.specs.declared.places.Places.{Places}
use Rattle.step_search.proofs.Closed.{get_below, get_last}

-- where a name stands, its places begin
pub record IsLast (q : List ℕ) (names : List (List ℕ)) (m place : ℕ) : Type 0 where
  pub below : place < m
  pub places : places_below q names m ≡ place ∷ places_below q names place
  pub before : earlier_of names place ≡ last_below q names place

is_last : (q : List ℕ) (names : List (List ℕ)) (m place : ℕ) → last_below q names m ≡ Some place → IsLast q names m place
unfolding last_below places_below
is_last q names zero place e = absurd cc
is_last q names (suc m) place e = at (is_at q names m) refl e (is_last q names m place)
  where
    named : (o : Option (List ℕ)) → slice_get names m ≡ o → (elim o [ None ↦ false | Some name ↦ bytes_eq q name ]) ≡ true → earlier_of names m ≡ last_below q names m
    named None is t = absurd cc
    named (Some name) is t = ap (λ (o : Option (List ℕ)). elim o [ None ↦ None | Some p ↦ last_below p names m ]) is ∙ ap (λ (p : List ℕ). last_below p names m) (sym ((bytes_eq-Decides q name).0 t))

    at : (b : Bool) → is_at q names m ≡ b → (elim b [ true ↦ Some m | false ↦ last_below q names m ]) ≡ Some place → (last_below q names m ≡ Some place → IsLast q names m place) → IsLast q names (suc m) place
    at true is e more =
        let same : m ≡ place = same_Some m place e in
        subst (λ (k : ℕ). IsLast q names (suc m) k) same (record {
          below = omega arith;
          places = ap (λ (b : Bool). elim b [ true ↦ m ∷ places_below q names m | false ↦ places_below q names m ]) is;
          before = named (slice_get names m) refl is;
        })
    at false is e more =
        let older = more e in
        record {
          below = omega (arith, older.below);
          places = ap (λ (b : Bool). elim b [ true ↦ m ∷ places_below q names m | false ↦ places_below q names m ]) is ∙ older.places;
          before = older.before;
        }

none_below : (q : List ℕ) (names : List (List ℕ)) (m : ℕ) → last_below q names m ≡ None → places_below q names m ≡ []
unfolding last_below places_below
none_below q names zero e = refl
none_below q names (suc m) e = at (is_at q names m) refl e (none_below q names m)
  where
    at : (b : Bool) → is_at q names m ≡ b → ◌≡◌ {A = Option ℕ} (elim b [ true ↦ Some m | false ↦ last_below q names m ]) None → (last_below q names m ≡ None → places_below q names m ≡ []) → places_below q names (suc m) ≡ []
    at true is e more = absurd cc
    at false is e more = ap (λ (b : Bool). elim b [ true ↦ m ∷ places_below q names m | false ↦ places_below q names m ]) is ∙ more e

last_less : (q : List ℕ) (names : List (List ℕ)) (m place : ℕ) → last_below q names m ≡ Some place → place < m
last_less q names m place e = (is_last q names m place e).below

-- what the table keeps is below, and so it is what is asked for
pub kept_is : (names : List (List ℕ)) (table : Places) (n place : ℕ) → IsTable names table n → place < n → kept_below table.earlier.items place ≡ earlier_of names place
kept_is names table n place told below =
    ap (λ (o : Option (Option ℕ)). elim o [ None ↦ None | Some p ↦ elim p [ None ↦ None | Some m ↦ elim (nat_lt m place) [ true ↦ Some m | false ↦ None ] ] ]) (told.earlier place below)
    ∙ at (earlier_of names place) refl
  where
    less : (o : Option (List ℕ)) (m : ℕ) → (elim o [ None ↦ None | Some q ↦ last_below q names place ]) ≡ Some m → m < place
    less None m e = absurd cc
    less (Some q) m e = last_less q names place m e

    at : (o : Option ℕ) → earlier_of names place ≡ o → (elim o [ None ↦ None | Some m ↦ elim (nat_lt m place) [ true ↦ Some m | false ↦ None ] ]) ≡ o
    at None e = refl
    at (Some m) e = ap (λ (b : Bool). elim b [ true ↦ Some m | false ↦ None ]) (lt-ltb m place (less (slice_get names place) m e))

-- how far a walk has to go at most
abbrev pub left_of : Option ℕ → ℕ
left_of None = 0
left_of (Some place) = place + 1

pub falls : (kept : List (Option ℕ)) (at next : Option ℕ) (place : ℕ) → at ≡ Some place → next ≡ kept_below kept place → left_of next < left_of at
falls kept at next place is e = subst (λ (o : Option ℕ). left_of next < left_of o) (sym is) (subst (λ (o : Option ℕ). left_of o < place + 1) (sym e) (at_kept (slice_get kept place)))
  where
    at_test : (m : ℕ) (b : Bool) → nat_lt m place ≡ b → left_of (elim b [ true ↦ Some m | false ↦ None ]) < place + 1
    at_test m true t = omega (arith, ltb-true m place t)
    at_test m false t = omega arith

    at_kept : (o : Option (Option ℕ)) → left_of (elim o [ None ↦ None | Some p ↦ elim p [ None ↦ None | Some m ↦ elim (nat_lt m place) [ true ↦ Some m | false ↦ None ] ] ]) < place + 1
    at_kept None = omega arith
    at_kept (Some None) = omega arith
    at_kept (Some (Some m)) = at_test m (nat_lt m place) refl

pub nothing_left : {A : Type 0} (o : Option A) → ((x : A) → o ≡ Some x → ⊥) → o ≡ None
nothing_left None h = refl
nothing_left (Some x) h = absurd (h x refl)

-- ---- the walk

-- what is in the row, and the places from the next one on, are all places
pub record IsOnWay (q : List ℕ) (names : List (List ℕ)) (all row : List ℕ) (at : Option ℕ) : Type 0 where
  pub top : ℕ
  pub within : top ≤ length names
  pub next : at ≡ last_below q names top
  pub whole : row ++ places_below q names top ≡ all

abbrev pub OnWay : List ℕ → List ℕ → List ℕ → Places → Option ℕ → Type 0
OnWay q old row table at = (names : List (List ℕ)) → IsTable names table (length names) → IsOnWay q names (old ++ places_in names q) row at

pub starts : (q old : List ℕ) (table : Places) (at : Option ℕ) → at ≡ under table.last.entries q → OnWay q old old table at
starts q old table at is names told = record { top = length names; within = omega arith; next = is ∙ told.last q; whole = refl }

pub goes : (q old row more : List ℕ) (table : Places) (at next : Option ℕ) (place : ℕ) → at ≡ Some place → more ≡ row ++ place ∷ [] → OnWay q old row table at
    → next ≡ kept_below table.earlier.items place → OnWay q old more table next
goes q old row more table at next place is grown way kept names told =
    let here = way names told in
    let last = is_last q names here.top place (sym here.next ∙ is) in
    let below : place < length names = omega (arith, last.below, here.within) in
    record {
      top = place;
      within = omega (arith, below);
      next = kept ∙ kept_is names table (length names) place told below ∙ last.before;
      whole = ap (λ (xs : List ℕ). xs ++ places_below q names place) grown ∙ append_assoc row (place ∷ []) (places_below q names place) ∙ ap (λ (xs : List ℕ). row ++ xs) (sym last.places) ∙ here.whole;
    }

pub ends : (q old row : List ℕ) (table : Places) (at : Option ℕ) → at ≡ None → OnWay q old row table at → (names : List (List ℕ)) → IsTable names table (length names) → row ≡ old ++ places_in names q
ends q old row table at is way names told =
    let here = way names told in
    sym (append_nil row) ∙ ap (λ (xs : List ℕ). row ++ xs) (sym (none_below q names here.top (sym here.next ∙ is))) ∙ here.whole
  where
    append_nil : (xs : List ℕ) → xs ++ [] ≡ xs
    append_nil [] = refl
    append_nil (x ∷ xs) = ap (λ (ys : List ℕ). x ∷ ys) (append_nil xs)

-- ---- a name that is added

pub added : (names : List (List ℕ)) (n : ℕ) (old new : Places) (name : List ℕ) → IsTable names old n → slice_get names n ≡ Some name
    → ((q : List ℕ) → under new.last.entries q ≡ elim (bytes_eq q name) [ true ↦ Some (length old.earlier.items) | false ↦ under old.last.entries q ])
    → new.earlier.items ≡ old.earlier.items ++ under old.last.entries name ∷ [] → IsTable names new (n + 1)
unfolding last_below
added names n old new name told is last earlier = subst (λ (k : ℕ). IsTable names new k) (omega arith) (record {
  last = λ q. last q ∙ at_last q;
  earlier = λ m below. ap (λ (xs : List (Option ℕ)). slice_get xs m) earlier ∙ at_earlier m below;
  count = ap length earlier ∙ count;
})
  where
    here : (q : List ℕ) → is_at q names n ≡ bytes_eq q name
    here q = ap (λ (o : Option (List ℕ)). elim o [ None ↦ false | Some p ↦ bytes_eq q p ]) is

    at_last : (q : List ℕ) → (elim (bytes_eq q name) [ true ↦ Some (length old.earlier.items) | false ↦ under old.last.entries q ]) ≡ last_below q names (suc n)
    at_last q =
        ap (λ (k : ℕ). elim (bytes_eq q name) [ true ↦ Some k | false ↦ under old.last.entries q ]) told.count
        ∙ ap (λ (o : Option ℕ). elim (bytes_eq q name) [ true ↦ Some n | false ↦ o ]) (told.last q)
        ∙ ap (λ (b : Bool). elim b [ true ↦ Some n | false ↦ last_below q names n ]) (sym (here q))

    at_earlier : (m : ℕ) → m < suc n → slice_get (old.earlier.items ++ under old.last.entries name ∷ []) m ≡ Some (earlier_of names m)
    at_earlier m below = elim (split m below) [
      | inl before ↦ get_below old.earlier.items (under old.last.entries name ∷ []) m (omega (arith, told.count)) ∙ told.earlier m before
      | inr same ↦ ap (λ (k : ℕ). slice_get (old.earlier.items ++ under old.last.entries name ∷ []) k) (same ∙ sym told.count) ∙ get_last old.earlier.items (under old.last.entries name)
          ∙ ap (λ (o : Option ℕ). Some o) (told.last name ∙ earlier_is m same)
    ]
      where
        split : (m : ℕ) → m < suc n → (m < n) ⊎ (m ≡ n)
        split m below = grind arith

        earlier_is : (m : ℕ) → m ≡ n → last_below name names n ≡ earlier_of names m
        earlier_is m same = subst (λ (k : ℕ). last_below name names n ≡ earlier_of names k) (sym same) (sym (ap (λ (o : Option (List ℕ)). elim o [ None ↦ None | Some p ↦ last_below p names n ]) is))

    count : length (old.earlier.items ++ under old.last.entries name ∷ []) ≡ suc n
    count = one_more old.earlier.items (under old.last.entries name) ∙ ap (λ (k : ℕ). suc k) told.count
      where
        one_more : (xs : List (Option ℕ)) (x : Option ℕ) → length (xs ++ x ∷ []) ≡ suc (length xs)
        one_more [] x = refl
        one_more (y ∷ xs) x = ap (λ (k : ℕ). suc k) (one_more xs x)

-- nothing stands in an empty table
pub none_told : (names : List (List ℕ)) (table : Places) → ((q : List ℕ) → under table.last.entries q ≡ None) → length table.earlier.items ≡ 0 → IsTable names table 0
unfolding last_below
none_told names table none count = record { last = none; earlier = λ m below. absurd (omega arith); count = count }
