-- Communities of any sort, whatever numbers they are made of: rectangles, sets in rising order, and their changes.
use Rattle.std.specs.Prelude.{ℕ, ◌<◌, ◌++◌, Bool, true, false, ◌&&◌, not, nat_le, nat_lt, List, [], ◌∷◌, filter, if◌then◌else◌}
use Rattle.std.specs.List.{list_any}

-- each number lies in its range: the numbers are those of a community, the ranges those of a rectangle, as many
abbrev pub all_within : List (ℕ × ℕ) → List ℕ → Bool
all_within [] [] = true
all_within [] (n ∷ ns) = false
all_within (side ∷ more) [] = false
all_within (side ∷ more) (n ∷ ns) = (nat_le side.0 n && nat_le n side.1) && all_within more ns

-- the set with one more member, in rising order of the number that orders communities, without repeats
abbrev pub with_member_by : {C : Type 0} → (C → ℕ) → C → List C → List C
with_member_by number c [] = c ∷ []
with_member_by number c (d ∷ ds) =
    if nat_lt (number c) (number d) then c ∷ d ∷ ds else (if nat_lt (number d) (number c) then d ∷ with_member_by number c ds else d ∷ ds)

-- the set of the communities of a list, in rising order and without repeats
abbrev pub set_by : {C : Type 0} → (C → ℕ) → List C → List C
set_by number [] = []
set_by number (c ∷ cs) = with_member_by number c (set_by number cs)

-- in rising order and without repeats
abbrev pub IsAscendingBy : {C : Type 0} → (C → ℕ) → List C → Type 0
IsAscendingBy number [] = Unit {0}
IsAscendingBy number (c ∷ []) = Unit {0}
IsAscendingBy number (c ∷ d ∷ ds) = (number c < number d) × IsAscendingBy number (d ∷ ds)

-- some rectangle is fitted
abbrev pub fits_some : {R C : Type 0} → (R → C → Bool) → List R → C → Bool
fits_some fits rects c = list_any (λ r. fits r c) rects

-- (old without all that fit a removed rectangle) with added
abbrev pub set_after_by : {R C : Type 0} → (C → ℕ) → (R → C → Bool) → List R → List C → List C → List C
set_after_by number fits removed added old = set_by number (filter (λ c. not (fits_some fits removed c)) old ++ added)
