-- How many ranges digit words make, counted from their digits before any is made. A pattern becomes items where each
-- of its sets of words makes at most 1,048,576.
use Rattle.std.specs.Prelude.{ℕ, ◌+◌, ◌-◌, ◌*◌, ◌^◌, ◌==◌, Bool, true, false, ◌&&◌, nat_le, min, List, [], ◌∷◌, length}
use Rattle.std.specs.List.{list_all}
use Rattle.path_patterns.specs.DigitRanges.{chosen, runs, all_digits, first_digits}
use Rattle.path_patterns.specs.declared.pattern.DigitSet.{DigitSet}
use Rattle.path_patterns.specs.declared.pattern.DigitWord.{DigitWord}
use Rattle.path_patterns.specs.declared.pattern.DigitWord.TheVariants.{Any, Digits}
use Rattle.path_patterns.specs.declared.pattern.IosBranch.{IosBranch}
use Rattle.path_patterns.specs.declared.pattern.IosBranch.TheVariants.{EmptyPath, Pieces}
use Rattle.path_patterns.specs.declared.pattern.Piece.{Piece}
use Rattle.path_patterns.specs.declared.pattern.Piece.TheVariants.{Anything, Set}
use Rattle.path_patterns.specs.declared.pattern.Tail.{Tail}

-- so many numbers in so many ranges, with one more digit behind each number: as many ranges where it is any digit, else
-- one for each number and each run of digits
abbrev pub ranges_with : DigitSet → ℕ → ℕ → ℕ
ranges_with s numbers ranges = elim (s.0 == 1023) [ true ↦ ranges | false ↦ numbers * length (runs s all_digits) ]

-- with a digit of each set behind each number
unfoldable pub ranges_behind : ℕ → ℕ → List DigitSet → ℕ
ranges_behind numbers ranges [] = ranges
ranges_behind numbers ranges (s ∷ ss) = ranges_behind (numbers * length (chosen s all_digits)) (ranges_with s numbers ranges) ss

-- the ranges of a word, also of numbers above 4294967295
abbrev pub word_count : DigitWord → ℕ
word_count Any = 1
word_count (Digits []) = 0
word_count (Digits (s ∷ ss)) = ranges_behind (length (chosen s (first_digits ss))) (length (runs s (first_digits ss))) ss

-- the ranges of all words
unfoldable pub words_count : List DigitWord → ℕ
words_count [] = 0
words_count (w ∷ ws) = word_count w + words_count ws

-- the words make at most 1,048,576 ranges
abbrev pub few_ranges : List DigitWord → Bool
few_ranges ws = nat_le (words_count ws) 1048576

-- the words of the tails, each for itself
abbrev pub few_in_tails : List Tail → Bool
few_in_tails ts = list_all (λ t. few_ranges t.words) ts

-- the words of a piece, and those of its tails
abbrev pub few_in_piece : Piece → Bool
few_in_piece Anything = true
few_in_piece (Set s) = few_ranges s.words && few_in_tails s.tails

-- the words of all pieces of a branch
abbrev pub few_in_branch : IosBranch → Bool
few_in_branch EmptyPath = true
few_in_branch (Pieces b) = list_all few_in_piece b.pieces

-- each set of words of a pattern makes at most 1,048,576 ranges
abbrev pub few_in_pattern : List IosBranch → Bool
few_in_pattern bs = list_all few_in_branch bs

-- a count, or 2^64 - 1 where it is greater
abbrev pub capped : ℕ → ℕ
capped n = min n (2 ^ 64 - 1)
