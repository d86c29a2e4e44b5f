-- How the tables of classes lead a path to its class.
use Rattle.std.specs.Prelude.{ℕ, Bool, false, List, [], ◌∷◌, Some, None, slice_get}
use Rattle.path_classes.specs.Numbers.{count_below}
use Rattle.path_classes.specs.declared.classes.Classes.{Classes}

-- the item at a place, and 0 where none is
abbrev pub at_or_zero : List ℕ → ℕ → ℕ
at_or_zero xs i = elim (slice_get xs i) [ None ↦ 0 | Some x ↦ x ]

-- the letter of a number: that of the piece in which it lies
abbrev pub letter_in : Classes → ℕ → ℕ
letter_in c n = at_or_zero c.letters (count_below n c.ends)

-- the state to which a number leads from another one
abbrev pub state_behind : Classes → ℕ → ℕ → ℕ
state_behind c s n = elim (slice_get c.next s) [ None ↦ 0 | Some row ↦ at_or_zero row (letter_in c n) ]

-- the state to which a path leads from another one
unfoldable pub state_in : Classes → ℕ → List ℕ → ℕ
state_in c s [] = s
state_in c s (n ∷ ns) = state_in c (state_behind c s n) ns

-- the class of a path
abbrev pub class_in : Classes → List ℕ → ℕ
class_in c path = at_or_zero c.classes (state_in c 0 path)

-- the path that a class has
abbrev pub member_at : Classes → ℕ → List ℕ
member_at c k = elim (slice_get c.members k) [ None ↦ [] | Some p ↦ p ]

-- the answer of a class and a pattern
abbrev pub answer_at : Classes → ℕ → ℕ → Bool
answer_at c k j = elim (slice_get c.answers.keys k) [ None ↦ false | Some row ↦ elim (slice_get row j) [ None ↦ false | Some b ↦ b ] ]
