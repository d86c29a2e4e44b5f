-- What a change of communities does to a rectangle of a test: it takes away all of it, a part, or nothing.
use Rattle.std.specs.Prelude.{◌≡◌, ℕ, ◌≤◌, ◌<◌, ◌^◌, Bool, true, false, ◌&&◌, nat_le, max, min, List, [], ◌∷◌}
use Rattle.route_types.specs.Community.{RectParts, fits}
use Rattle.route_types.specs.declared.community.Community.{Community}
use Rattle.community_sets.specs.declared.change.Cut.{Cut}
use Rattle.community_sets.specs.declared.change.Cut.TheVariants.{Never, Whole, Part}

-- some community fits both rectangles
pub record Share (r s : RectParts) : Type 0 where
  pub community : Community
  pub one : fits r community ≡ true
  pub other : fits s community ≡ true

-- the second rectangle has each community of the first
pub record Covered (r s : RectParts) : Type 0 where
  pub each : (c : Community) → fits r c ≡ true → fits s c ≡ true

-- a rectangle of 16-bit halves, neither range empty
pub record IsRect (r : RectParts) : Type 0 where
  pub high : r.high_least ≤ r.high_most
  pub low : r.low_least ≤ r.low_most
  pub small : r.low_most < 2 ^ 16

-- the cut of a rectangle that shares a community with a removed one, and is covered by one
abbrev pub cut_of : Bool → Bool → Cut
cut_of false covered = Never
cut_of true true = Whole
cut_of true false = Part

-- in each place the two ranges have a number in common; of rectangles of any number of ranges
abbrev pub meet : List (ℕ × ℕ) → List (ℕ × ℕ) → Bool
meet [] [] = true
meet [] (t ∷ ts) = false
meet (s ∷ ss) [] = false
meet (s ∷ ss) (t ∷ ts) = nat_le (max s.0 t.0) (min s.1 t.1) && meet ss ts

-- each range lies in that of the other rectangle
abbrev pub lies_in : List (ℕ × ℕ) → List (ℕ × ℕ) → Bool
lies_in [] [] = true
lies_in [] (t ∷ ts) = false
lies_in (s ∷ ss) [] = false
lies_in (s ∷ ss) (t ∷ ts) = (nat_le t.0 s.0 && nat_le s.1 t.1) && lies_in ss ts
