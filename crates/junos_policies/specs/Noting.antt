-- Each of several values once, in the order of their first use, and where it stands.
use Rattle.std.specs.Prelude.{◌≡◌, ℕ, suc, Bool, true, false, List, [], ◌∷◌, ◌++◌, if◌then◌else◌, Some}
use Rattle.std.specs.List.{list_any, slice_get}

-- one more, where none is the same
abbrev pub noted : {D : Type 0} → (D → D → Bool) → List D → D → List D
noted same ds d = if list_any (same d) ds then ds else ds ++ d ∷ []

-- more of them, one after the other
unfoldable pub noted_all : {D : Type 0} → (D → D → Bool) → List D → List D → List D
noted_all same ds [] = ds
noted_all same ds (x ∷ xs) = noted_all same (noted same ds x) xs

-- the place of the first that passes the test
unfoldable pub place_in : {D : Type 0} → (D → Bool) → List D → ℕ
place_in test [] = 0
place_in test (d ∷ ds) = elim (test d) [ true ↦ 0 | false ↦ suc (place_in test ds) ]

-- a value stands at a place
abbrev pub StandsAt : {D : Type 0} → List D → ℕ → D → Type 0
StandsAt ds n d = slice_get ds n ≡ Some d
