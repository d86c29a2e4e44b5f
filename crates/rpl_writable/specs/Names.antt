-- The names of the blocks of a policy that is written.
use Rattle.std.specs.Prelude.{◌≡◌, ℕ, ◌⊎◌, List, ◌∷◌, ◌++◌, codes}
use Rattle.text_words.specs.RplText.{breaks}

-- the name itself, or the name with `-` and more behind it
abbrev pub IsOwnName : List ℕ → List ℕ → Type 0
IsOwnName name other = (other ≡ name) ⊎ ((rest : List ℕ) × (other ≡ name ++ (45 ∷ rest)))

-- the bytes that stand in no name: `$`, those that stand in no plain word, and marks
abbrev pub breaks_names : List ℕ
breaks_names = 36 ∷ (breaks ++ codes "\"'[]{}(),;")
