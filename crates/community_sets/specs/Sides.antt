-- Ranges of halves, and what is left of one without another.
use Rattle.std.specs.Prelude.{ℕ, Bool, false, ◌&&◌, nat_le, Option, Some, None}
use Rattle.community_sets.specs.declared.side.Side.{Side}

-- the number lies in the range
abbrev pub in_side : Side → ℕ → Bool
in_side s n = nat_le s.least n && nat_le n s.most

-- the number lies in the range, if there is one
abbrev pub in_part : Option Side → ℕ → Bool
in_part (Some s) n = in_side s n
in_part None n = false
