-- The function that finds the IOS pattern that a text spells. A text is cut at bytes that stand outside
-- parentheses: at `|` into branches, at `_` into pieces, at `(` into a set and its tails.
use Rattle.std.specs.Prelude.{ℕ, zero, suc, ◌+◌, ◌-◌, ◌^◌, Bool, true, false, ◌&&◌, nat_le, ◌==◌, List, [], ◌∷◌, Option, Some, None, length, take, codes, bytes_eq, get_or}
use Rattle.std.specs.Int.Bits.{bit_or}
use Rattle.route_types.specs.Words.{is_digit, when, parts_at, ◌>>=◌}
use Rattle.policy_text.specs.Phrases.{each}
use Rattle.path_patterns.specs.declared.pattern.IosBranch.{IosBranch}
use Rattle.path_patterns.specs.declared.pattern.IosBranch.TheVariants.{EmptyPath, Pieces}
use Rattle.path_patterns.specs.declared.pattern.Mark.{Mark}
use Rattle.path_patterns.specs.declared.pattern.Mark.TheVariants.{Anchor, Under, Nothing}
use Rattle.path_patterns.specs.declared.pattern.Piece.{Piece}
use Rattle.path_patterns.specs.declared.pattern.Piece.TheVariants.{Anything, Set}
use Rattle.path_patterns.specs.declared.pattern.DigitWord.{DigitWord}
use Rattle.path_patterns.specs.declared.pattern.DigitWord.TheVariants.{Any, Digits}
use Rattle.path_patterns.specs.declared.pattern.DigitSet.{DigitSet}
use Rattle.path_patterns.specs.declared.pattern.Tail.{Tail}
use Rattle.path_patterns.specs.declared.pattern.Repeat.{Repeat}
use Rattle.path_patterns.specs.declared.pattern.Repeat.TheVariants.{Star, Plus, Maybe}

-- ---- cuts outside parentheses

-- how many parentheses are left unclosed behind a byte
abbrev pub depth_behind : ℕ → ℕ → ℕ
depth_behind d c = elim (c == 40) [ true ↦ d + 1 | false ↦ elim (c == 41) [ true ↦ d - 1 | false ↦ d ] ]

-- one byte more in front of the first part
abbrev pub onto_first : ℕ → List (List ℕ) → List (List ℕ)
onto_first c [] = (c ∷ []) ∷ []
onto_first c (t ∷ ts) = (c ∷ t) ∷ ts

-- the parts between the bytes b that stand outside parentheses, where so many are unclosed before the text
unfoldable pub parts_by : ℕ → ℕ → List ℕ → List (List ℕ)
parts_by b d [] = [] ∷ []
parts_by b d (c ∷ cs) = elim (c == b && d == 0) [
  | true ↦ [] ∷ parts_by b (depth_behind d c) cs
  | false ↦ onto_first c (parts_by b (depth_behind d c) cs)
]

-- what stands before the first such byte, and what stands behind it
unfoldable pub cut_at : ℕ → ℕ → List ℕ → Option (List ℕ × List ℕ)
cut_at b d [] = None
cut_at b d (c ∷ cs) = elim (c == b && d == 0) [
  | true ↦ Some ([], cs)
  | false ↦ cut_at b (depth_behind d c) cs >>= λ parts. Some (c ∷ parts.0, parts.1)
]

-- ---- digits and classes

-- the bits of the digits from one to another, by their bytes
abbrev pub run_in : ℕ → ℕ → Option ℕ
run_in c e = when (is_digit c && is_digit e && nat_le c e) (2 ^ (e - 48 + 1) - 2 ^ (c - 48))

-- the bits of the first run, and what stands behind it
abbrev pub run_at : List ℕ → Option (ℕ × List ℕ)
run_at [] = None
run_at (c ∷ []) = run_in c c >>= λ r. Some (r, [])
run_at (c ∷ d ∷ []) = run_in c c >>= λ r. Some (r, d ∷ [])
run_at (c ∷ d ∷ e ∷ cs) = elim (d == 45) [
  | true ↦ run_in c e >>= λ r. Some (r, cs)
  | false ↦ run_in c c >>= λ r. Some (r, d ∷ e ∷ cs)
]

-- the bits of all runs, and of those found before them
unfoldable pub runs_after : ℕ → List ℕ → Option ℕ
runs_after v [] = Some v
runs_after v (c ∷ []) = run_in c c >>= λ r. Some (bit_or v r)
runs_after v (c ∷ d ∷ []) = run_in c c >>= λ r. runs_after (bit_or v r) (d ∷ [])
runs_after v (c ∷ d ∷ e ∷ cs) = elim (d == 45) [
  | true ↦ run_in c e >>= λ r. runs_after (bit_or v r) cs
  | false ↦ run_in c c >>= λ r. runs_after (bit_or v r) (d ∷ e ∷ cs)
]

-- the set of a class, by what stands in its brackets
abbrev pub class_in : List ℕ → Option DigitSet
class_in [] = None
class_in (c ∷ cs) = runs_after 0 (c ∷ cs) >>= λ v. Some (record { 0 = v })

-- the first digit or class, and what stands behind it
unfoldable pub set_at : List ℕ → Option (DigitSet × List ℕ)
set_at [] = None
set_at (c ∷ cs) = elim (c == 91) [
  | true ↦ parts_at 93 cs >>= λ parts. class_in parts.0 >>= λ s. Some (s, parts.1)
  | false ↦ when (is_digit c) (record { 0 = 2 ^ (c - 48) }, cs)
]

-- digits and classes, of which there are at most so many
unfoldable pub sets_in : ℕ → List ℕ → Option (List DigitSet)
sets_in n [] = Some []
sets_in zero (c ∷ cs) = None
sets_in (suc n) (c ∷ cs) = set_at (c ∷ cs) >>= λ r. sets_in n r.1 >>= λ ss. Some (r.0 ∷ ss)

-- ---- words, sets and tails

-- the word of one to ten digits and classes
abbrev pub digits_in : List ℕ → Option DigitWord
digits_in [] = None
digits_in (c ∷ cs) = sets_in 10 (c ∷ cs) >>= λ ss. Some (Digits ss)

-- the word that a text spells
unfoldable pub word_in : List ℕ → Option DigitWord
word_in text = elim (bytes_eq text (codes "[0-9]+")) [ true ↦ Some Any | false ↦ digits_in text ]

-- the words of a group, where nothing stands behind it
abbrev pub grouped : List ℕ → List ℕ → Option (List DigitWord)
grouped inside [] = each word_in (parts_by 124 0 inside)
grouped inside (c ∷ cs) = None

-- the words of a set of one word
abbrev pub lone : List ℕ → Option (List DigitWord)
lone text = word_in text >>= λ w. Some (w ∷ [])

-- the words of a set: one, or a group
unfoldable pub set_in : List ℕ → Option (List DigitWord)
set_in [] = None
set_in (c ∷ cs) = elim (c == 40) [
  | true ↦ cut_at 41 0 cs >>= λ parts. grouped parts.0 parts.1
  | false ↦ lone (c ∷ cs)
]

-- the sign of repetition
abbrev pub repeat_in : List ℕ → Option Repeat
repeat_in [] = None
repeat_in (c ∷ []) = elim (c == 42) [
  | true ↦ Some Star
  | false ↦ elim (c == 43) [ true ↦ Some Plus | false ↦ when (c == 63) Maybe ]
]
repeat_in (c ∷ d ∷ cs) = None

-- a set that is repeated
abbrev pub repeated : List ℕ → List ℕ → Option Tail
repeated text sign = set_in text >>= λ ws. repeat_in sign >>= λ r. Some (record { words = ws; repeat = r })

-- the tail whose `(` stands before the text
unfoldable pub tail_in : List ℕ → Option Tail
tail_in [] = None
tail_in (c ∷ cs) = elim (c == 95) [
  | true ↦ cut_at 41 0 cs >>= λ parts. repeated parts.0 parts.1
  | false ↦ None
]

-- ---- pieces and branches

-- a set and its tails
abbrev pub tailed : List (List ℕ) → Option Piece
tailed [] = None
tailed (t ∷ ts) = set_in t >>= λ ws. each tail_in ts >>= λ others. Some (Set (record { words = ws; tails = others }))

-- the piece of a set that a text spells
abbrev pub tailed_in : List ℕ → Option Piece
tailed_in [] = None
tailed_in (c ∷ cs) = tailed (onto_first c (parts_by 40 (depth_behind 0 c) cs))

-- the piece that a text spells
unfoldable pub piece_in : List ℕ → Option Piece
piece_in text = elim (bytes_eq text (codes ".*")) [ true ↦ Some Anything | false ↦ tailed_in text ]

-- the mark on the left, and what stands behind it
abbrev pub left_in : List ℕ → Mark × List ℕ
left_in [] = (Nothing, [])
left_in (c ∷ cs) = elim (c == 94) [
  | true ↦ (Anchor, cs)
  | false ↦ elim (c == 95) [ true ↦ (Under, cs) | false ↦ (Nothing, c ∷ cs) ]
]

-- the mark on the right by the last byte, and what stands before it
abbrev pub right_by : List ℕ → List ℕ → ℕ → Mark × List ℕ
right_by text front c = elim (c == 36) [
  | true ↦ (Anchor, front)
  | false ↦ elim (c == 95) [ true ↦ (Under, front) | false ↦ (Nothing, text) ]
]

-- the mark on the right, and what stands before it
abbrev pub right_in : List ℕ → Mark × List ℕ
right_in [] = (Nothing, [])
right_in (c ∷ cs) = right_by (c ∷ cs) (take (length cs) (c ∷ cs)) (get_or (c ∷ cs) (length cs) 0)

-- a mark may stand beside a piece
abbrev pub mark_fits : Mark → Piece → Bool
mark_fits Anchor p = true
mark_fits Under Anything = false
mark_fits Under (Set s) = true
mark_fits Nothing Anything = true
mark_fits Nothing (Set s) = false

-- two pieces may be neighbours
abbrev pub pieces_fit : Piece → Piece → Bool
pieces_fit Anything Anything = false
pieces_fit Anything (Set s) = true
pieces_fit (Set s) p = true

-- neighbours fit, and the last piece fits the mark
unfoldable pub pieces_end : List Piece → Mark → Bool
pieces_end [] right = false
pieces_end (p ∷ []) right = mark_fits right p
pieces_end (p ∷ q ∷ ps) right = pieces_fit p q && pieces_end (q ∷ ps) right

-- the first piece fits the mark
abbrev pub pieces_start : Mark → List Piece → Bool
pieces_start left [] = false
pieces_start left (p ∷ ps) = mark_fits left p

-- the branch of marks and of the pieces between them
unfoldable pub between : Mark → List ℕ → Mark → Option IosBranch
between left text right =
    each piece_in (parts_by 95 0 text) >>= λ ps. when (pieces_start left ps && pieces_end ps right) (Pieces (record { left = left; pieces = ps; right = right }))

-- the branch of pieces that a text spells
abbrev pub pieces_in : List ℕ → Option IosBranch
pieces_in text = between (left_in text).0 (right_in (left_in text).1).1 (right_in (left_in text).1).0

-- the branch that a text spells
unfoldable pub branch_in : List ℕ → Option IosBranch
branch_in text = elim (bytes_eq text (codes "^$")) [ true ↦ Some EmptyPath | false ↦ pieces_in text ]

-- the pattern that a text spells
unfoldable pub ios_pattern_in : List ℕ → Option (List IosBranch)
ios_pattern_in text = each branch_in (parts_by 124 0 text)
