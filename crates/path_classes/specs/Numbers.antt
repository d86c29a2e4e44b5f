-- Which numbers the items of patterns don't tell apart: those between which no range begins or ends.
use Rattle.std.specs.Prelude.{ℕ, Bool, true, false, ◌&&◌, ◌==◌, nat_le, nat_lt, List, [], ◌∷◌, Contains}
use Rattle.std.specs.List.{list_any, count_by}
use Rattle.path_patterns.specs.Items.{greatest}
use Rattle.path_patterns.specs.declared.items.NumberRange.{NumberRange}
use Rattle.path_patterns.specs.declared.items.NumberSet.{NumberSet}

-- how many of the numbers lie below n
abbrev pub count_below : ℕ → List ℕ → ℕ
count_below n xs = count_by (λ x. nat_lt x n) xs

-- how many of the numbers are not above n
abbrev pub count_up_to : ℕ → List ℕ → ℕ
count_up_to n xs = count_by (λ x. nat_le x n) xs

-- all of the numbers are there
abbrev pub HasAllOf : List ℕ → List ℕ → Type 0
HasAllOf xs ys = (x : ℕ) → Contains xs x → Contains ys x

-- the first numbers of the ranges that have numbers
unfoldable pub leasts_of : List NumberRange → List ℕ
leasts_of [] = []
leasts_of (r ∷ rs) = elim (nat_le r.least r.most) [ true ↦ r.least ∷ leasts_of rs | false ↦ leasts_of rs ]

-- their last numbers
unfoldable pub mosts_of : List NumberRange → List ℕ
mosts_of [] = []
mosts_of (r ∷ rs) = elim (nat_le r.least r.most) [ true ↦ r.most ∷ mosts_of rs | false ↦ mosts_of rs ]

-- more ranges begin up to the number than end below it
abbrev pub in_ends : List ℕ → List ℕ → ℕ → Bool
in_ends leasts mosts n = nat_lt (count_below n mosts) (count_up_to n leasts)

-- one of the ranges has all numbers
abbrev pub is_whole : NumberSet → Bool
is_whole set = list_any (λ r. r.least == 0 && r.most == greatest) set.ranges
