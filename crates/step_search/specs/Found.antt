-- What is found from a start by steps.
use Rattle.std.specs.Prelude.{◌≡◌, ℕ, zero, suc, ◌<◌, ◌⊎◌, List, [], ◌∷◌, ◌++◌, Some, slice_get}
use Rattle.std.specs.List.{flat_map}

-- it stands in the list
abbrev pub IsIn : {A : Type 0} → A → List A → Type 0
IsIn x [] = ⊥
IsIn x (y ∷ ys) = (x ≡ y) ⊎ IsIn x ys

-- the list has grown by some of these
abbrev pub GrewBy : {A : Type 0} → List A → List A → List A → Type 0
GrewBy {A} old more new = (extra : List A) × (new ≡ old ++ extra) × ((x : A) → IsIn x extra → IsIn x more)

-- what is n steps from the start
unfoldable pub steps_from : {A : Type 0} → (A → List A) → List A → ℕ → List A
steps_from next start zero = start
steps_from next start (suc n) = flat_map next (steps_from next start n)

-- some number of steps leads there from the start
pub record IsFound {A : Type 0} (next : A → List A) (start : List A) (x : A) : Type 0 where
  pub steps : ℕ
  pub there : IsIn x (steps_from next start steps)

-- a search so far: what is in the list is found, the start is in it, and so is what is next to its first `place`
pub record IsSearched {A : Type 0} (next : A → List A) (start : List A) (xs : List A) (place : ℕ) : Type 0 where
  pub sound : (x : A) → IsIn x xs → IsFound next start x
  pub starts : (x : A) → IsIn x start → IsIn x xs
  pub closed : (n : ℕ) (y x : A) → n < place → slice_get xs n ≡ Some y → IsIn x (next y) → IsIn x xs
