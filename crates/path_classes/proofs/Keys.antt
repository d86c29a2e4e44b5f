-- What a set of keys is after one was put in, where its test tells.
use Rattle.std.proofs.Common.{◌≡◌, refl, sym, ap, ◌∙◌, ℕ, zero, suc, ◌<◌, Bool, true, false, not, if◌then◌else◌, List, [], ◌∷◌, ◌++◌, length, Some, slice_get, arith, true≢false}
use Rattle.std.specs.List.{list_any}
use Rattle.indexmap.specs.IndexSet.{insert_key}

module _ {A : Type 0} where
  pub get_left : (xs ys : List A) (n : ℕ) (x : A) → slice_get xs n ≡ Some x → slice_get (xs ++ ys) n ≡ Some x
  get_left [] ys n x e = absurd cc
  get_left (y ∷ xs) ys zero x e = e
  get_left (y ∷ xs) ys (suc n) x e = get_left xs ys n x e

  pub at_place : (xs : List A) (i : ℕ) → i < length xs → (x : A) × (slice_get xs i ≡ Some x)
  at_place [] i below = absurd (omega arith)
  at_place (x ∷ xs) zero below = (x, refl)
  at_place (x ∷ xs) (suc i) below = at_place xs i (omega arith)

-- the keys are as before, or one longer
abbrev pub IsPut : {A : Type 0} → List A → List A → A → Bool → Type 0
IsPut old new key true = new ≡ old ++ key ∷ []
IsPut old new key false = new ≡ old

-- a new key stands at the end, an old one is there
pub put : {A : Type 0} (E : A → A → Bool) (old new : List A) (key : A) (is_new : Bool) → new ≡ insert_key E old key → is_new ≡ not (list_any (E key) old) → IsPut old new key is_new
put E old new key is_new keys added = at (list_any (E key) old) is_new refl added
  where
    at : (there new_one : Bool) → list_any (E key) old ≡ there → new_one ≡ not (list_any (E key) old) → IsPut old new key new_one
    at true true there said = absurd (true≢false (said ∙ ap not there))
    at true false there said = keys ∙ ap (λ (b : Bool). if b then old else old ++ key ∷ []) there
    at false true there said = keys ∙ ap (λ (b : Bool). if b then old else old ++ key ∷ []) there
    at false false there said = absurd (true≢false (sym (said ∙ ap not there)))

-- the key that is kept is the one that was put in
pub stored_is : {A : Type 0} (E : A → A → Bool) → ((x y : A) → E x y ≡ true → x ≡ y) → (keys : List A) (key : A) (i : ℕ) → (k : A) × (slice_get keys i ≡ Some k) × (E key k ≡ true) → slice_get keys i ≡ Some key
stored_is E tell keys key i kept = kept.1 ∙ ap Some (sym (tell key kept.0 kept.2))
