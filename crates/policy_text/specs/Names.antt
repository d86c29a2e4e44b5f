-- Names, and choices between values that may be there.
use Rattle.std.specs.Prelude.{ℕ, Bool, false, not, ◌==◌, List, Option, Some, None, codes, bytes_eq}
use Rattle.std.specs.List.{list_any}

-- a byte that no name holds: quotes, brackets, braces, parentheses, comma, semicolon
abbrev pub is_mark : ℕ → Bool
is_mark c = list_any (λ m. c == m) (codes "\"'[]{}(),;")

-- a name is a word without marks
abbrev pub is_name : List ℕ → Bool
is_name word = not (list_any is_mark word)

-- the name is there, and it is this one
abbrev pub is_named : List ℕ → Option (List ℕ) → Bool
is_named name None = false
is_named name (Some other) = bytes_eq name other

-- the first value that is there
abbrev pub first_some : {A : Type 0} → Option A → Option A → Option A
first_some (Some x) other = Some x
first_some None other = other

-- the value that is there, or else the other one
abbrev pub or_else : {A : Type 0} → Option A → A → A
or_else (Some x) other = x
or_else None other = other
