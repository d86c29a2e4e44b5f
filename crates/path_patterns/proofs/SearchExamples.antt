-- Worked examples of the search that the checker computes.
use Rattle.std.proofs.Common.{◌≡◌, refl, ℕ, true, false, List, [], ◌∷◌, arith}
use Rattle.std.specs.Prelude.{codes}
use Rattle.std.proofs.lemmas.Fmt.{decimal_digit}
use Rattle.path_patterns.specs.Search.{path_text}
use Rattle.path_patterns.specs.Finds.{digits_then, number_then, turns_then, tails_then, anything_then, pieces_then, found_in}
use Rattle.path_patterns.specs.declared.pattern.IosBranch.{IosBranch}
use Rattle.path_patterns.specs.declared.pattern.IosBranch.TheVariants.{EmptyPath, Pieces}
use Rattle.path_patterns.specs.declared.pattern.Mark.TheVariants.{Anchor, Under, Nothing}
use Rattle.path_patterns.specs.declared.pattern.Piece.{Piece}
use Rattle.path_patterns.specs.declared.pattern.Piece.TheVariants.{Anything, Set}
use Rattle.path_patterns.specs.declared.pattern.DigitWord.{DigitWord}
use Rattle.path_patterns.specs.declared.pattern.DigitWord.TheVariants.{Any, Digits}
use Rattle.path_patterns.specs.declared.pattern.DigitSet.{DigitSet}
use Rattle.path_patterns.specs.declared.pattern.Repeat.{Repeat}
use Rattle.path_patterns.specs.declared.pattern.Repeat.TheVariants.{Star, Plus, Maybe}

-- the text of a path
text_of_path : path_text (7 ∷ 8 ∷ []) ≡ codes "7 8"
unfolding path_text
text_of_path = rw (decimal_digit 7 (omega arith), decimal_digit 8 (omega arith)) refl

-- one digit
abbrev digit : ℕ → DigitSet
digit d = record { 0 = d }

-- 65001 and 65002, digit by digit: bit d for digit d
abbrev one : DigitWord
one = Digits (digit 64 ∷ digit 32 ∷ digit 1 ∷ digit 1 ∷ digit 2 ∷ [])

abbrev two : DigitWord
two = Digits (digit 64 ∷ digit 32 ∷ digit 1 ∷ digit 1 ∷ digit 4 ∷ [])

-- a word as a piece
abbrev piece : DigitWord → Piece
piece w = Set (record { words = w ∷ []; tails = [] })

-- `_65001_`
abbrev within : List IosBranch
within = Pieces (record { left = Under; pieces = piece one ∷ []; right = Under }) ∷ []

within_itself : found_in (codes "65001") within ≡ true
unfolding found_in anything_then pieces_then tails_then digits_then
within_itself = refl

within_others : found_in (codes "7 65001 8") within ≡ true
unfolding found_in anything_then pieces_then tails_then digits_then
within_others = refl

not_within_a_number : found_in (codes "165001") within ≡ false
unfolding found_in anything_then pieces_then tails_then digits_then
not_within_a_number = refl

-- `^65001_.*_65002$`
abbrev between : List IosBranch
between = Pieces (record { left = Anchor; pieces = piece one ∷ Anything ∷ piece two ∷ []; right = Anchor }) ∷ []

not_side_by_side : found_in (codes "65001 65002") between ≡ false
unfolding found_in anything_then pieces_then tails_then digits_then
not_side_by_side = refl

one_between : found_in (codes "65001 3 65002") between ≡ true
unfolding found_in anything_then pieces_then tails_then digits_then
one_between = refl

-- `^65001(_65001)*$`
abbrev again : List IosBranch
again = Pieces (record { left = Anchor; pieces = Set (record { words = one ∷ []; tails = record { words = one ∷ []; repeat = Star } ∷ [] }) ∷ []; right = Anchor }) ∷ []

three_times : found_in (codes "65001 65001 65001") again ≡ true
unfolding found_in anything_then pieces_then tails_then turns_then digits_then
three_times = refl

-- the empty path: `^$` and `.*` find it, and `^[0-9]+$` doesn't
empty_by_anchors : found_in [] (EmptyPath ∷ []) ≡ true
unfolding found_in anything_then
empty_by_anchors = refl

empty_by_anything : found_in [] (Pieces (record { left = Nothing; pieces = Anything ∷ []; right = Nothing }) ∷ []) ≡ true
unfolding found_in anything_then pieces_then
empty_by_anything = refl

not_empty_by_a_number : found_in [] (Pieces (record { left = Anchor; pieces = piece Any ∷ []; right = Anchor }) ∷ []) ≡ false
unfolding found_in anything_then pieces_then tails_then number_then
not_empty_by_a_number = refl

-- `^.*_65002$` finds 65002 alone
nothing_before : found_in (codes "65002") (Pieces (record { left = Anchor; pieces = Anything ∷ piece two ∷ []; right = Anchor }) ∷ []) ≡ true
unfolding found_in anything_then pieces_then tails_then digits_then
nothing_before = refl

-- one number, by the bit of its digit
abbrev seven : DigitWord
seven = Digits (digit 128 ∷ [])

abbrev eight : DigitWord
eight = Digits (digit 256 ∷ [])

-- `^7(_8)+$` and `^7(_8)?$`
abbrev seven_then : Repeat → List IosBranch
seven_then turns = Pieces (record { left = Anchor; pieces = Set (record { words = seven ∷ []; tails = record { words = eight ∷ []; repeat = turns } ∷ [] }) ∷ []; right = Anchor }) ∷ []

twice_by_plus : found_in (codes "7 8 8") (seven_then Plus) ≡ true
unfolding found_in anything_then pieces_then tails_then turns_then digits_then
twice_by_plus = refl

none_by_plus : found_in (codes "7") (seven_then Plus) ≡ false
unfolding found_in anything_then pieces_then tails_then turns_then digits_then
none_by_plus = refl

none_by_maybe : found_in (codes "7") (seven_then Maybe) ≡ true
unfolding found_in anything_then pieces_then tails_then turns_then digits_then
none_by_maybe = refl

twice_by_maybe : found_in (codes "7 8 8") (seven_then Maybe) ≡ false
unfolding found_in anything_then pieces_then tails_then turns_then digits_then
twice_by_maybe = refl

-- `_(7|8)_` on a path of two
abbrev either : List IosBranch
either = Pieces (record { left = Under; pieces = Set (record { words = seven ∷ eight ∷ []; tails = [] }) ∷ []; right = Under }) ∷ []

second_of_two : found_in (codes "1 8") either ≡ true
unfolding found_in anything_then pieces_then tails_then digits_then
second_of_two = refl

first_of_two : found_in (codes "7 1") either ≡ true
unfolding found_in anything_then pieces_then tails_then digits_then
first_of_two = refl

neither_of_two : found_in (codes "1 78") either ≡ false
unfolding found_in anything_then pieces_then tails_then digits_then
neither_of_two = refl
