-- Lines and columns of a text.
use Rattle.std.specs.Prelude.{ℕ, ◌+◌, true, false, ◌==◌, List, [], ◌∷◌, take, count_by}
use Rattle.policy_program.specs.declared.place.Place.{Place}

-- the column behind bytes, the first of which has this column: an LF starts again with 1
unfoldable pub column_behind : ℕ → List ℕ → ℕ
column_behind column [] = column
column_behind column (b ∷ bs) = elim (b == 10) [ true ↦ column_behind 1 bs | false ↦ column_behind (column + 1) bs ]

-- the place of a byte of a text: line 1 plus the LFs before it, column 1 plus the bytes since the last of them
abbrev pub place_in : List ℕ → ℕ → Place
place_in text start = record { line = 1 + count_by (λ b. b == 10) (take start text); column = column_behind 1 (take start text) }
