-- The texts of a shelf, each under its name.
use Rattle.std.specs.Prelude.{◌≡◌, ℕ, ◌<◌, List, [], ◌∷◌, length, bytes_eq, if◌then◌else◌, Option, Some, None, IsSomeAnd}

-- names, each with its text; of pairs with one name the first decides
abbrev pub Texts : Type 0
Texts = List (List ℕ × List ℕ)

-- the text under a name
abbrev pub text_at : Texts → List ℕ → Option (List ℕ)
text_at [] name = None
text_at (held ∷ others) name = if bytes_eq held.0 name then Some held.1 else text_at others name

-- this is the text under the name, where the texts are told
abbrev pub IsTold : Option Texts → List ℕ → List ℕ → Type 0
IsTold None name text = Unit {0}
IsTold (Some texts) name text = text_at texts name ≡ Some text

-- the text under the name is longer than most
abbrev pub IsLonger : Texts → List ℕ → ℕ → Type 0
IsLonger texts name most = IsSomeAnd (text_at texts name) (λ text. most < length text)
