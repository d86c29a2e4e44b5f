-- How the readers of words walk: digits under a greatest value.
use Rattle.std.specs.Prelude.{ℕ, ◌+◌, ◌-◌, ◌*◌, nat_le, Bool, true, false, not, ◌==◌, List, [], ◌∷◌, Option, Some, None}
use Rattle.route_types.specs.Words.{is_digit, when, ◌>>=◌}

-- the value n with one more digit behind it, at most the greatest value
abbrev pub with_digit : ℕ → ℕ → ℕ → Option ℕ
with_digit most n c = elim (is_digit c) [ true ↦ when (nat_le (n * 10 + (c - 48)) most) (n * 10 + (c - 48)) | false ↦ None ]

-- the value of digits behind those that have the value n, each step at most the greatest value
unfoldable pub number_after : ℕ → ℕ → List ℕ → Option ℕ
number_after most n [] = Some n
number_after most n (c ∷ cs) = with_digit most n c >>= λ m. number_after most m cs

-- at least one byte, and no zero before another byte
abbrev pub starts_plainly : List ℕ → Bool
starts_plainly [] = false
starts_plainly (c ∷ []) = true
starts_plainly (c ∷ d ∷ cs) = not (c == 48)
