-- Entries of different numbers in order: each has a lower number than all those behind it.
use Rattle.std.proofs.Common.{◌≡◌, refl, ℕ, ◌<◌, ◌≤◌, Bool, true, false, List, [], ◌∷◌, arith}
use Rattle.std.specs.Prelude.{nat_le}
use Rattle.std.specs.List.{AllByRecursion}
use Rattle.std.proofs.lemmas.Bool.{leb-true, leb-false}
use Rattle.ios_meaning.specs.Order.{put_in_order, in_order}

module _ {A : Type 0} (key : A → ℕ) where
  -- no key is that of an element behind
  abbrev pub Apart : List A → Type 0
  Apart [] = Unit {0}
  Apart (x ∷ xs) = AllByRecursion (λ y. key x ≡ key y → ⊥) xs × Apart xs

  -- each key is below those of all elements behind
  abbrev pub Ascends : List A → Type 0
  Ascends [] = Unit {0}
  Ascends (x ∷ xs) = AllByRecursion (λ y. key x < key y) xs × Ascends xs

  module _ (P : A → Type 0) where
    all_by : (x y : A) (ys : List A) (b : Bool) → P x → P y → AllByRecursion P ys → AllByRecursion P (put_in_order key x ys) → AllByRecursion P (elim b [ true ↦ x ∷ y ∷ ys | false ↦ y ∷ put_in_order key x ys ])
    all_by x y ys true px py pys more = (px, (py, pys))
    all_by x y ys false px py pys more = (py, more)

    all_put : (x : A) (xs : List A) → P x → AllByRecursion P xs → AllByRecursion P (put_in_order key x xs)
    all_put x [] px h = (px, tt)
    all_put x (y ∷ ys) px h = all_by x y ys (nat_le (key x) (key y)) px h.0 h.1 (all_put x ys px h.1)

    -- what each element has, each has in order
    pub all_in_order : (xs : List A) → AllByRecursion P xs → AllByRecursion P (in_order key xs)
    all_in_order [] h = tt
    all_in_order (x ∷ xs) h = all_put x (in_order key xs) h.0 (all_in_order xs h.1)

  below_all : (n m : ℕ) (ys : List A) → n < m → AllByRecursion (λ y. m < key y) ys → AllByRecursion (λ y. n < key y) ys
  below_all n m [] l h = tt
  below_all n m (y ∷ ys) l h = (omega (arith, l, h.0), below_all n m ys l h.1)

  below : (a b : ℕ) → a ≤ b → (a ≡ b → ⊥) → a < b
  below a b l n = omega arith

  ascends_by : (x y : A) (ys : List A) (b : Bool) → nat_le (key x) (key y) ≡ b → (key x ≡ key y → ⊥) → Ascends (y ∷ ys) → Ascends (put_in_order key x ys) → Ascends (elim b [ true ↦ x ∷ y ∷ ys | false ↦ y ∷ put_in_order key x ys ])
  ascends_by x y ys true e n h more =
      let l = below (key x) (key y) (leb-true (key x) (key y) e) n in
      ((l, below_all (key x) (key y) ys l h.0), h)
  ascends_by x y ys false e n h more = (all_put (λ z. key y < key z) x ys (leb-false (key x) (key y) e) h.0, more)

  ascends_put : (x : A) (xs : List A) → AllByRecursion (λ y. key x ≡ key y → ⊥) xs → Ascends xs → Ascends (put_in_order key x xs)
  ascends_put x [] n h = (tt, tt)
  ascends_put x (y ∷ ys) n h = ascends_by x y ys (nat_le (key x) (key y)) refl n.0 h (ascends_put x ys n.1 h.1)

  pub ascends_in_order : (xs : List A) → Apart xs → Ascends (in_order key xs)
  ascends_in_order [] n = tt
  ascends_in_order (x ∷ xs) n = ascends_put x (in_order key xs) (all_in_order (λ y. key x ≡ key y → ⊥) xs n.0) (ascends_in_order xs n.1)
