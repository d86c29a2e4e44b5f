-- Communities (RFC 1997), rectangles of them, and the changes of their sets.
use Rattle.std.specs.Prelude.{ℕ, ◌≤◌, ◌/◌, ◌%◌, ◌^◌, Bool, List, [], ◌∷◌}
use Rattle.route_types.specs.Sets.{all_within, with_member_by, set_by, set_after_by, IsAscendingBy}
use Rattle.route_types.specs.declared.community.Community.{Community}

-- a rectangle as clauses see it
pub record RectParts : Type 0 where
  pub high_least : ℕ
  pub high_most : ℕ
  pub low_least : ℕ
  pub low_most : ℕ

-- neither range is empty
pub record HasNumbers (high_least high_most low_least low_most : ℕ) : Type 0 where
  pub high : high_least ≤ high_most
  pub low : low_least ≤ low_most

-- the numbers that a community is made of: its upper and its lower half
abbrev pub halves : Community → List ℕ
halves c = c.0 / 2 ^ 16 ∷ c.0 % 2 ^ 16 ∷ []

-- the ranges of a rectangle, a least and a most for each half
abbrev pub sides : RectParts → List (ℕ × ℕ)
sides r = (r.high_least, r.high_most) ∷ (r.low_least, r.low_most) ∷ []

-- a community fits a rectangle where both halves lie in the ranges
abbrev pub fits : RectParts → Community → Bool
fits r c = all_within (sides r) (halves c)

-- the number that orders communities
abbrev pub number : Community → ℕ
number c = c.0

-- the set with one more member, in rising order and without repeats
abbrev pub with_member : Community → List Community → List Community
with_member c cs = with_member_by number c cs

-- the set of the communities of a list, in rising order and without repeats
abbrev pub set_of : List Community → List Community
set_of cs = set_by number cs

-- (old without all that fit a removed rectangle) with added
abbrev pub set_after : List RectParts → List Community → List Community → List Community
set_after removed added old = set_after_by number fits removed added old

-- in rising order and without repeats
abbrev pub IsAscending : List Community → Type 0
IsAscending cs = IsAscendingBy number cs
