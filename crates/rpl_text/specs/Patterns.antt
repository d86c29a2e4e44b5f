-- The text of an IOS AS-path pattern, of any that has the shape.
use Rattle.std.specs.Prelude.{ℕ, ◌+◌, Bool, cond, ◌||◌, nat_lt, List, [], ◌∷◌, ◌++◌, map, flat_map, filter, codes}
use Rattle.std.specs.List.{list_all}
use Rattle.aspath_text.specs.IosGrammar.{repeat_sign, left_text, right_text}
use Rattle.aspath_text.specs.IosText.{least_digit, greatest_digit, run_text}
use Rattle.path_patterns.specs.PathItems.{has_digit}
use Rattle.path_patterns.specs.declared.pattern.IosBranch.{IosBranch}
use Rattle.path_patterns.specs.declared.pattern.IosBranch.TheVariants.{EmptyPath, Pieces}
use Rattle.path_patterns.specs.declared.pattern.Piece.{Piece}
use Rattle.path_patterns.specs.declared.pattern.Piece.TheVariants.{Anything, Set}
use Rattle.path_patterns.specs.declared.pattern.DigitWord.{DigitWord}
use Rattle.path_patterns.specs.declared.pattern.DigitWord.TheVariants.{Any, Digits}
use Rattle.path_patterns.specs.declared.pattern.DigitSet.{DigitSet}
use Rattle.path_patterns.specs.declared.pattern.Tail.{Tail}

-- the ten digits
abbrev pub all_digits : List ℕ
all_digits = 0 ∷ 1 ∷ 2 ∷ 3 ∷ 4 ∷ 5 ∷ 6 ∷ 7 ∷ 8 ∷ 9 ∷ []

-- the digits of a set, in rising order
abbrev pub digits_of : DigitSet → List ℕ
digits_of s = filter (has_digit s) all_digits

-- the set has each digit between its least and its greatest
unfoldable pub is_run : DigitSet → Bool
is_run s = list_all (λ d. has_digit s d || (nat_lt d (least_digit s) || nat_lt (greatest_digit s) d)) all_digits

-- a digit, `[d-e]`, or each digit in brackets
abbrev pub set_text : DigitSet → List ℕ
set_text s = cond (is_run s) (run_text (least_digit s) (greatest_digit s)) (91 ∷ (map (λ d. 48 + d) (digits_of s) ++ (93 ∷ [])))

-- the texts of some things with a byte between each two
abbrev pub between : {A : Type 0} → ℕ → (A → List ℕ) → List A → List ℕ
between b f [] = []
between b f (x ∷ xs) = f x ++ flat_map (λ y. b ∷ f y) xs

-- `[0-9]+`, or digits and classes
abbrev pub word_text : DigitWord → List ℕ
word_text Any = codes "[0-9]+"
word_text (Digits ss) = flat_map set_text ss

-- one word, or words joined by `|` in parentheses
abbrev pub words_text : List DigitWord → List ℕ
words_text [] = codes "()"
words_text (w ∷ []) = word_text w
words_text (w ∷ v ∷ ws) = 40 ∷ (word_text w ++ (flat_map (λ x. 124 ∷ word_text x) (v ∷ ws) ++ (41 ∷ [])))

-- `(_`, a set, `)` and a sign
abbrev pub tail_text : Tail → List ℕ
tail_text t = 40 ∷ 95 ∷ (words_text t.words ++ (41 ∷ repeat_sign t.repeat ∷ []))

-- `.*`, or a set and its tails
abbrev pub piece_text : Piece → List ℕ
piece_text Anything = codes ".*"
piece_text (Set s) = words_text s.words ++ flat_map tail_text s.tails

-- `^$`, or pieces joined by `_` between two marks
abbrev pub branch_text : IosBranch → List ℕ
branch_text EmptyPath = codes "^$"
branch_text (Pieces b) = left_text b.left ++ (between 95 piece_text b.pieces ++ right_text b.right)

-- branches joined by `|`
abbrev pub pattern_text : List IosBranch → List ℕ
pattern_text bs = between 124 branch_text bs
