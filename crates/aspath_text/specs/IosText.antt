-- The text of an IOS pattern whose digit sets are runs of digits.
use Rattle.std.specs.Prelude.{ℕ, ◌+◌, ◌-◌, Bool, true, cond, ◌&&◌, ◌==◌, List, [], ◌∷◌, ◌++◌, map, flat_map, codes, Option, Some, None}
use Rattle.std.specs.List.{AllByRecursion, repeat as repeated}
use Rattle.aspath_text.specs.IosGrammar.{joined_by, repeat_sign, left_text, right_text}
use Rattle.path_patterns.specs.PathItems.{has_digit}
use Rattle.path_patterns.specs.Shape.{IsBranch}
use Rattle.path_patterns.specs.RangeWords.{AreRuns}
use Rattle.path_patterns.specs.IosForm.{takes_one, is_free, closes, behind_first}
use Rattle.path_patterns.specs.declared.word_item.WordItem.{WordItem}
use Rattle.path_patterns.specs.declared.pattern.IosBranch.{IosBranch}
use Rattle.path_patterns.specs.declared.pattern.IosBranch.TheVariants.{EmptyPath, Pieces}
use Rattle.path_patterns.specs.declared.pattern.Mark.{Mark}
use Rattle.path_patterns.specs.declared.pattern.Mark.TheVariants.{Anchor, Under}
use Rattle.path_patterns.specs.declared.pattern.Piece.{Piece}
use Rattle.path_patterns.specs.declared.pattern.Piece.TheVariants.{Anything, Set}
use Rattle.path_patterns.specs.declared.pattern.DigitWord.{DigitWord}
use Rattle.path_patterns.specs.declared.pattern.DigitWord.TheVariants.{Any, Digits}
use Rattle.path_patterns.specs.declared.pattern.DigitSet.{DigitSet}
use Rattle.path_patterns.specs.declared.pattern.Tail.{Tail}
use Rattle.path_patterns.specs.declared.pattern.Repeat.{Repeat}
use Rattle.path_patterns.specs.declared.pattern.Repeat.TheVariants.{Star, Maybe}

-- ---- the text of branches

-- the first of some digits that is in the set
unfoldable pub first_in : DigitSet → List ℕ → ℕ
first_in s [] = 0
first_in s (d ∷ ds) = cond (has_digit s d) d (first_in s ds)

-- the least digit of a set
abbrev pub least_digit : DigitSet → ℕ
least_digit s = first_in s (0 ∷ 1 ∷ 2 ∷ 3 ∷ 4 ∷ 5 ∷ 6 ∷ 7 ∷ 8 ∷ 9 ∷ [])

-- the greatest digit of a set
abbrev pub greatest_digit : DigitSet → ℕ
greatest_digit s = first_in s (9 ∷ 8 ∷ 7 ∷ 6 ∷ 5 ∷ 4 ∷ 3 ∷ 2 ∷ 1 ∷ 0 ∷ [])

-- a digit, or `[d-e]`
abbrev pub run_text : ℕ → ℕ → List ℕ
run_text d e = cond (d == e) ((48 + d) ∷ []) (91 ∷ (48 + d) ∷ 45 ∷ (48 + e) ∷ 93 ∷ [])

-- the text of a set that is a run of digits
abbrev pub digit_set_text : DigitSet → List ℕ
digit_set_text s = run_text (least_digit s) (greatest_digit s)

-- `[0-9]+`, or digits and classes
abbrev pub word_text : DigitWord → List ℕ
word_text Any = codes "[0-9]+"
word_text (Digits ss) = flat_map digit_set_text ss

-- words joined by `|` in parentheses
abbrev pub group_text : List DigitWord → List ℕ
group_text ws = 40 ∷ (joined_by 124 (map word_text ws) ++ (41 ∷ []))

-- one word, or a group of words
abbrev pub set_text : List DigitWord → List ℕ
set_text [] = group_text []
set_text (w ∷ []) = word_text w
set_text (w ∷ v ∷ ws) = group_text (w ∷ v ∷ ws)

-- `(_`, a set, `)` and a sign
abbrev pub tail_text : List DigitWord → Repeat → List ℕ
tail_text ws repeat = 40 ∷ 95 ∷ (set_text ws ++ (41 ∷ repeat_sign repeat ∷ []))

-- `.*`, or a set and its tails
abbrev pub piece_text : Piece → List ℕ
piece_text Anything = codes ".*"
piece_text (Set s) = set_text s.words ++ flat_map (λ t. tail_text t.words t.repeat) s.tails

-- `^$`, or pieces joined by `_` between two marks
abbrev pub branch_text : IosBranch → List ℕ
branch_text EmptyPath = codes "^$"
branch_text (Pieces b) = left_text b.left ++ (joined_by 95 (map piece_text b.pieces) ++ right_text b.right)

-- branches joined by `|`
abbrev pub ios_text : List IosBranch → List ℕ
ios_text bs = joined_by 124 (map branch_text bs)

-- branches with a `|` before each of them
abbrev pub barred_text : List IosBranch → List ℕ
barred_text bs = flat_map (λ b. 124 ∷ branch_text b) bs

-- ---- the same text from items

-- a tail `?` for each number above the least count, or one tail `*`
abbrev pub further_text : List DigitWord → ℕ → Option ℕ → List ℕ
further_text ws least None = tail_text ws Star
further_text ws least (Some most) = repeated (most - least) (tail_text ws Maybe)

-- an item behind a piece
abbrev pub item_text : WordItem → List ℕ
item_text i = repeated i.least (95 ∷ set_text i.words) ++ further_text i.words i.least i.most

-- items behind a piece, and the right mark
unfoldable pub rest_text : Bool → List WordItem → List ℕ
rest_text behind [] = 36 ∷ []
rest_text behind (i ∷ is) = cond (closes behind i is) (95 ∷ []) (item_text i ++ rest_text (takes_one i) is)

-- a branch of items of which the first one is there
abbrev pub start_text : Mark → WordItem → List WordItem → List ℕ
start_text mark i is = left_text mark ++ (set_text i.words ++ (item_text (behind_first i) ++ rest_text true is))

-- one branch for each item that can be the first one that is there, with a `|` before each
unfoldable pub starts_text : List WordItem → List ℕ
starts_text [] = codes "|^$"
starts_text (i ∷ is) = 124 ∷ (start_text Anchor i is ++ cond (takes_one i) [] (starts_text is))

-- the branches of items, with a `|` before each
abbrev pub items_text : List WordItem → List ℕ
items_text [] = starts_text []
items_text (i ∷ []) = cond (is_free i) (codes "|.*") (starts_text (i ∷ []))
items_text (i ∷ j ∷ js) = cond (is_free i && takes_one j) (124 ∷ start_text Under j js) (starts_text (i ∷ j ∷ js))

-- ---- sets that are runs

-- each set of a tail is a run
abbrev pub IsRunTail : Tail → Type 0
IsRunTail t = AreRuns t.words

-- each set of a piece is a run
abbrev pub IsRunPiece : Piece → Type 0
IsRunPiece Anything = Unit {0}
IsRunPiece (Set s) = AreRuns s.words × AllByRecursion IsRunTail s.tails

-- each set of a branch is a run
abbrev pub IsRunBranch : IosBranch → Type 0
IsRunBranch EmptyPath = Unit {0}
IsRunBranch (Pieces b) = AllByRecursion IsRunPiece b.pieces

-- a branch of the shape, whose text can be written
abbrev pub IsPrintable : IosBranch → Type 0
IsPrintable b = IsBranch b × IsRunBranch b
