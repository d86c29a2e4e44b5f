-- Ranges joined where they overlap or touch, and the ranges of a set in rising order.
use Rattle.std.specs.Prelude.{◌+◌, ◌<◌, ◌≤◌, Bool, true, false, ◌&&◌, nat_le, nat_lt, min, max, List, [], ◌∷◌}
use Rattle.path_patterns.specs.Items.{greatest}
use Rattle.path_patterns.specs.declared.items.NumberRange.{NumberRange}

-- each range has a number, and between two of them lies a number of neither
abbrev pub AreRising : List NumberRange → Type 0
AreRising [] = Unit {0}
AreRising (r ∷ []) = r.least ≤ r.most
AreRising (r ∷ s ∷ rs) = (r.least ≤ r.most) × (r.most + 1 < s.least) × AreRising (s ∷ rs)

-- each range has a number, and none begins before the one in front of it
abbrev pub AreInOrder : List NumberRange → Type 0
AreInOrder [] = Unit {0}
AreInOrder (r ∷ []) = r.least ≤ r.most
AreInOrder (r ∷ s ∷ rs) = (r.least ≤ r.most) × (r.least ≤ s.least) × AreInOrder (s ∷ rs)

-- a number lies in the range
abbrev pub has_number : NumberRange → Bool
has_number r = nat_le r.least r.most

-- the range goes beyond the numbers of 32 bits
abbrev pub is_wide : NumberRange → Bool
is_wide r = nat_lt greatest r.most

-- the second range begins within the first one, or right behind it
abbrev pub touches : NumberRange → NumberRange → Bool
touches r s = nat_le r.least s.least && nat_le s.least (r.most + 1)

-- from the least of the first range to the greater end of the two
abbrev pub both_ranges : NumberRange → NumberRange → NumberRange
both_ranges r s = record { least = r.least; most = max r.most s.most }

-- a range and those behind it, joined where one touches the next
unfoldable pub joined_from : NumberRange → List NumberRange → List NumberRange
joined_from r [] = r ∷ []
joined_from r (s ∷ ss) = elim (touches r s) [ true ↦ joined_from (both_ranges r s) ss | false ↦ r ∷ joined_from s ss ]

-- all ranges, joined where one touches the next
abbrev pub joined : List NumberRange → List NumberRange
joined [] = []
joined (r ∷ rs) = joined_from r rs

-- ---- one form for each set of numbers

-- the second range begins behind the first one, and a number of neither lies between them
abbrev pub is_apart : NumberRange → NumberRange → Bool
is_apart r s = nat_lt (r.most + 1) s.least

-- from the lesser of two least numbers to the greater end
abbrev pub hull : NumberRange → NumberRange → NumberRange
hull r s = record { least = min r.least s.least; most = max r.most s.most }

-- a range among rising ones, one with those that it meets
unfoldable pub put : NumberRange → List NumberRange → List NumberRange
put r [] = r ∷ []
put r (s ∷ ss) = elim (is_apart r s) [ true ↦ r ∷ s ∷ ss | false ↦ elim (is_apart s r) [ true ↦ s ∷ put r ss | false ↦ put (hull r s) ss ] ]

-- the ranges that have a number, in rising order, and one where they meet
unfoldable pub rising : List NumberRange → List NumberRange
rising [] = []
rising (r ∷ rs) = elim (has_number r) [ true ↦ put r (rising rs) | false ↦ rising rs ]
