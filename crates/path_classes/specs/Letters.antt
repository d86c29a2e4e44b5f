-- Letters: numbers that no item tells apart are one letter.
use Rattle.std.specs.Prelude.{◌≡◌, ℕ, ◌-◌, ◌≤◌, Bool, true, false, nat_lt, List, [], ◌∷◌, ◌++◌, Some, length, map, slice_get}
use Rattle.std.specs.List.{flat_map}
use Rattle.std.specs.List.Sorted.{IsNonDecreasing}
use Rattle.path_patterns.specs.Items.{greatest, IsPath}
use Rattle.path_classes.specs.Numbers.{HasAllOf}
use Rattle.path_classes.specs.Lines.{turn_holds}
use Rattle.path_classes.specs.declared.lines.Turn.{Turn}
use Rattle.path_classes.specs.declared.lines.Line.{Line}

-- the numbers right before these ones
unfoldable pub befores : List ℕ → List ℕ
befores [] = []
befores (n ∷ ns) = elim (nat_lt 0 n) [ true ↦ (n - 1) ∷ befores ns | false ↦ befores ns ]

-- the last numbers of the pieces into which a turn's set cuts the numbers
abbrev pub turn_ends : Turn → List ℕ
turn_ends t = befores t.set.leasts ++ t.set.mosts

-- those of a line's sets
abbrev pub line_ends : Line → List ℕ
line_ends l = flat_map turn_ends l.turns

-- those of all sets, and the greatest number
abbrev pub all_ends : List Line → List ℕ
all_ends lines = greatest ∷ flat_map line_ends lines

-- the number is in the turn's set
abbrev pub turn_tests : ℕ → Turn → Bool
turn_tests n t = turn_holds t n

-- which items have the number
abbrev pub signature : List Line → ℕ → List Bool
signature lines n = flat_map (λ l. map (turn_tests n) l.turns) lines

-- the letters have these signatures and these numbers
pub record AreTold (lines : List Line) (rows : List (List Bool)) (numbers : List ℕ) : Type 0 where
  pub rows_told : rows ≡ map (λ n. signature lines n) numbers
  pub in_range : IsPath numbers

-- the letter's number has the signature of this one
pub record HasLetter (lines : List Line) (numbers : List ℕ) (n x : ℕ) : Type 0 where
  pub number : ℕ
  pub there : slice_get numbers x ≡ Some number
  pub alike : signature lines number ≡ signature lines n

-- a letter was found or added
pub record LetterAdded (lines : List Line) (before : List ℕ) (rows : List (List Bool)) (numbers : List ℕ) (n x : ℕ) : Type 0 where
  pub extra : List ℕ
  pub grown : numbers ≡ before ++ extra
  pub told : AreTold lines rows numbers
  pub has : HasLetter lines numbers n x

-- these are the letters of the first ones of these numbers
abbrev pub AreLetters : List Line → List ℕ → List ℕ → List ℕ → Type 0
AreLetters lines numbers es [] = Unit {0}
AreLetters lines numbers [] (x ∷ xs) = ⊥
AreLetters lines numbers (e ∷ es) (x ∷ xs) = HasLetter lines numbers e x × AreLetters lines numbers es xs

-- each of these numbers has its letter
pub record AllLettered (lines : List Line) (es letters numbers : List ℕ) : Type 0 where
  pub lettered : AreLetters lines numbers es letters
  pub full : length es ≤ length letters
  pub in_range : IsPath numbers

-- the numbers are cut at all ends, and each piece has its letter
pub record CutsAll (lines : List Line) (ends letters numbers : List ℕ) : Type 0 where
  pub rising : IsNonDecreasing ends
  pub all : HasAllOf (all_ends lines) ends
  pub pieces : AllLettered lines ends letters numbers
