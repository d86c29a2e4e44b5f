-- The search of `Search` as a function: each definition asks whether a part goes on from a place to one where
-- the rest holds. A place is what stands from it to the end of the text, and the rest a test on places.
use Rattle.std.specs.Prelude.{ℕ, zero, suc, ◌-◌, ◌==◌, Bool, true, false, ◌&&◌, ◌||◌, List, [], ◌∷◌, length, bytes_eq}
use Rattle.std.specs.List.{list_any}
use Rattle.route_types.specs.Words.{is_digit}
use Rattle.path_patterns.specs.PathItems.{has_digit}
use Rattle.path_patterns.specs.Search.{path_text}
use Rattle.path_patterns.specs.declared.pattern.IosBranch.{IosBranch}
use Rattle.path_patterns.specs.declared.pattern.IosBranch.TheVariants.{EmptyPath, Pieces}
use Rattle.path_patterns.specs.declared.pattern.Mark.{Mark}
use Rattle.path_patterns.specs.declared.pattern.Mark.TheVariants.{Anchor, Under, Nothing}
use Rattle.path_patterns.specs.declared.pattern.Piece.{Piece}
use Rattle.path_patterns.specs.declared.pattern.Piece.TheVariants.{Anything, Set}
use Rattle.path_patterns.specs.declared.pattern.DigitWord.{DigitWord}
use Rattle.path_patterns.specs.declared.pattern.DigitWord.TheVariants.{Any, Digits}
use Rattle.path_patterns.specs.declared.pattern.DigitSet.{DigitSet}
use Rattle.path_patterns.specs.declared.pattern.Tail.{Tail}
use Rattle.path_patterns.specs.declared.pattern.Repeat.{Repeat}
use Rattle.path_patterns.specs.declared.pattern.Repeat.TheVariants.{Star, Plus, Maybe}

-- what holds behind a space
abbrev pub space_then : (List ℕ → Bool) → List ℕ → Bool
space_then rest [] = false
space_then rest (c ∷ cs) = (c == 32) && rest cs

-- the place is the start or the end of the text
abbrev pub at_edge : List ℕ → List ℕ → Bool
at_edge text place = bytes_eq place text || bytes_eq place []

-- `_`: a space, or nothing at the start and at the end
abbrev pub under_then : List ℕ → (List ℕ → Bool) → List ℕ → Bool
under_then text rest place = space_then rest place || (at_edge text place && rest place)

-- digits and classes, a character each
unfoldable pub digits_then : List DigitSet → (List ℕ → Bool) → List ℕ → Bool
digits_then [] rest place = rest place
digits_then (s ∷ ss) rest [] = false
digits_then (s ∷ ss) rest (c ∷ cs) = is_digit c && has_digit s (c - 48) && digits_then ss rest cs

-- `[0-9]+`: one or more digits
unfoldable pub number_then : (List ℕ → Bool) → List ℕ → Bool
number_then rest [] = false
number_then rest (c ∷ cs) = is_digit c && (rest cs || number_then rest cs)

-- a digit word
abbrev pub word_then : DigitWord → (List ℕ → Bool) → List ℕ → Bool
word_then Any rest place = number_then rest place
word_then (Digits ss) rest place = digits_then ss rest place

-- one of the words
abbrev pub set_then : List DigitWord → (List ℕ → Bool) → List ℕ → Bool
set_then ws rest place = list_any (λ w. word_then w rest place) ws

-- a turn of a tail: `_` and a set
abbrev pub turn_then : List ℕ → List DigitWord → (List ℕ → Bool) → List ℕ → Bool
turn_then text ws rest place = under_then text (λ p. set_then ws rest p) place

-- at most so many turns
unfoldable pub turns_then : List ℕ → List DigitWord → ℕ → (List ℕ → Bool) → List ℕ → Bool
turns_then text ws zero rest place = rest place
turns_then text ws (suc n) rest place = rest place || turn_then text ws (λ p. turns_then text ws n rest p) place

-- a tail; more turns than there are characters behind the place lead no further
abbrev pub repeat_then : List ℕ → Repeat → List DigitWord → (List ℕ → Bool) → List ℕ → Bool
repeat_then text Star ws rest place = turns_then text ws (length place) rest place
repeat_then text Plus ws rest place = turn_then text ws (λ p. turns_then text ws (length p) rest p) place
repeat_then text Maybe ws rest place = rest place || turn_then text ws rest place

-- tails in turn
unfoldable pub tails_then : List ℕ → List Tail → (List ℕ → Bool) → List ℕ → Bool
tails_then text [] rest place = rest place
tails_then text (t ∷ ts) rest place = repeat_then text t.repeat t.words (λ p. tails_then text ts rest p) place

-- `.*`: any count of characters
unfoldable pub anything_then : (List ℕ → Bool) → List ℕ → Bool
anything_then rest [] = rest []
anything_then rest (c ∷ cs) = rest (c ∷ cs) || anything_then rest cs

-- a piece
abbrev pub piece_then : List ℕ → Piece → (List ℕ → Bool) → List ℕ → Bool
piece_then text Anything rest place = anything_then rest place
piece_then text (Set s) rest place = set_then s.words (λ p. tails_then text s.tails rest p) place

-- pieces in turn, with `_` between two of them
unfoldable pub pieces_then : List ℕ → List Piece → (List ℕ → Bool) → List ℕ → Bool
pieces_then text [] rest place = rest place
pieces_then text (p ∷ []) rest place = piece_then text p rest place
pieces_then text (p ∷ q ∷ ps) rest place = piece_then text p (λ b. under_then text (λ n. pieces_then text (q ∷ ps) rest n) b) place

-- the left mark: `^` at the start, `_`, or nothing
abbrev pub left_then : List ℕ → Mark → (List ℕ → Bool) → List ℕ → Bool
left_then text Anchor rest place = bytes_eq place text && rest place
left_then text Under rest place = under_then text rest place
left_then text Nothing rest place = rest place

-- the right mark, which a branch ends with: `$` at the end, `_`, or nothing
abbrev pub right_holds : List ℕ → Mark → List ℕ → Bool
right_holds text Anchor place = bytes_eq place []
right_holds text Under place = under_then text (λ p. true) place
right_holds text Nothing place = true

-- a branch goes on from the place
abbrev pub branch_from : List ℕ → IosBranch → List ℕ → Bool
branch_from text EmptyPath place = bytes_eq place text && bytes_eq place []
branch_from text (Pieces b) place = left_then text b.left (λ p. pieces_then text b.pieces (λ q. right_holds text b.right q) p) place

-- some branch goes on from some place of the text
unfoldable pub found_in : List ℕ → List IosBranch → Bool
found_in text bs = list_any (λ b. anything_then (λ place. branch_from text b place) text) bs

-- the pattern is found in the text of the path
unfoldable pub finds_in : List IosBranch → List ℕ → Bool
finds_in bs path = found_in (path_text path) bs
