-- The form of the name of a policy that is written.
use Rattle.std.specs.Prelude.{ℕ, Bool, false, ◌&&◌, ◌||◌, nat_le, ◌==◌, List, [], ◌∷◌, length}
use Rattle.std.specs.List.{list_all}

-- an ASCII letter
abbrev pub is_letter : ℕ → Bool
is_letter c = (nat_le 65 c && nat_le c 90) || (nat_le 97 c && nat_le c 122)

-- an ASCII letter, a digit, `-` or `_`
abbrev pub is_name_byte : ℕ → Bool
is_name_byte c = is_letter c || (nat_le 48 c && nat_le c 57) || (c == 45) || (c == 95)

-- a letter, then at most 62 letters, digits, `-` or `_`
abbrev pub is_new_name : List ℕ → Bool
is_new_name [] = false
is_new_name (c ∷ cs) = is_letter c && list_all is_name_byte cs && nat_le (length cs) 62
