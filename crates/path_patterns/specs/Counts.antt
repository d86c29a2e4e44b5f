-- How many numbers are taken: a least count, and an upper end where there is one.
use Rattle.std.specs.Prelude.{ℕ, ◌+◌, ◌==◌, nat_lt, Bool, false, Option, Some, None}

-- the least count is above the upper end
abbrev pub is_above : ℕ → Option ℕ → Bool
is_above least None = false
is_above least (Some most) = nat_lt most least

-- the upper end is zero
abbrev pub is_nothing : Option ℕ → Bool
is_nothing None = false
is_nothing (Some most) = most == 0

-- the sum of two upper ends; none where one of the two is not there
abbrev pub both_most : Option ℕ → Option ℕ → Option ℕ
both_most None d = None
both_most (Some b) None = None
both_most (Some b) (Some d) = Some (b + d)
