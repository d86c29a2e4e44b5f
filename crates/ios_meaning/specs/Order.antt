-- The order of entries: by their numbers, and of equal numbers as in the text.
use Rattle.std.specs.Prelude.{ℕ, true, false, nat_le, List, [], ◌∷◌}

-- the items with one more, before the first one whose key is no lower
abbrev pub put_in_order : {A : Type 0} → (A → ℕ) → A → List A → List A
put_in_order key x [] = x ∷ []
put_in_order key x (y ∷ ys) = elim (nat_le (key x) (key y)) [ true ↦ x ∷ y ∷ ys | false ↦ y ∷ put_in_order key x ys ]

-- the items in order of their keys
abbrev pub in_order : {A : Type 0} → (A → ℕ) → List A → List A
in_order key [] = []
in_order key (x ∷ xs) = put_in_order key x (in_order key xs)
