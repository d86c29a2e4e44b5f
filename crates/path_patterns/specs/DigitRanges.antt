-- The ranges of the numbers that digit words spell, from 0 to 4294967295: from the left, the ranges of the
-- digits so far are spread by the digits that may stand behind them.
use Rattle.std.specs.Prelude.{ℕ, zero, suc, ◌+◌, ◌-◌, ◌*◌, true, false, ◌==◌, nat_le, min, List, [], ◌∷◌, ◌++◌}
use Rattle.path_patterns.specs.Items.{greatest}
use Rattle.path_patterns.specs.PathItems.{has_digit}
use Rattle.path_patterns.specs.MergedRanges.{joined, rising}
use Rattle.path_patterns.specs.declared.items.NumberRange.{NumberRange}
use Rattle.path_patterns.specs.declared.items.NumberSet.{NumberSet}
use Rattle.path_patterns.specs.declared.pattern.DigitWord.{DigitWord}
use Rattle.path_patterns.specs.declared.pattern.DigitWord.TheVariants.{Any, Digits}
use Rattle.path_patterns.specs.declared.pattern.DigitSet.{DigitSet}

-- the numbers from one to another
abbrev pub between : ℕ → ℕ → NumberRange
between a b = record { least = a; most = b }

-- the part of a range that has 32 bits
abbrev pub within : ℕ → ℕ → List NumberRange
within a b = elim (nat_le a greatest) [ true ↦ between a (min b greatest) ∷ [] | false ↦ [] ]

-- the digits that may stand first in a number of more digits
abbrev pub front_digits : List ℕ
front_digits = 1 ∷ 2 ∷ 3 ∷ 4 ∷ 5 ∷ 6 ∷ 7 ∷ 8 ∷ 9 ∷ []

-- all digits
abbrev pub all_digits : List ℕ
all_digits = 0 ∷ front_digits

-- those of the digits that are in the set
unfoldable pub chosen : DigitSet → List ℕ → List NumberRange
chosen s [] = []
chosen s (d ∷ ds) = elim (has_digit s d) [ true ↦ between d d ∷ chosen s ds | false ↦ chosen s ds ]

-- the runs of digits of a set
abbrev pub runs : DigitSet → List ℕ → List NumberRange
runs s ds = joined (chosen s ds)

-- a number with a digit of the runs behind it
unfoldable pub one_spread : ℕ → List NumberRange → List NumberRange
one_spread a [] = []
one_spread a (r ∷ rs) = within (10 * a + r.least) (10 * a + r.most) ++ one_spread a rs

-- so many numbers, one after the other, each with a digit of the runs behind it
unfoldable pub each_spread : ℕ → ℕ → List NumberRange → List NumberRange
each_spread zero a runs = []
each_spread (suc k) a runs = one_spread a runs ++ each_spread k (a + 1) runs

-- the greatest number that may stand before one more digit, in a number of 32 bits
abbrev pub greatest_front : ℕ
greatest_front = 429496729

-- the numbers of a range, each with a digit of the set behind it; where the set is full they are one range
abbrev pub range_spread : DigitSet → List NumberRange → NumberRange → List NumberRange
range_spread s runs r =
    elim (s.0 == 1023) [ true ↦ within (10 * r.least) (10 * r.most + 9) | false ↦ each_spread (min r.most greatest_front + 1 - r.least) r.least runs ]

-- the numbers of ranges, each with a digit of the set behind it
unfoldable pub all_spread : DigitSet → List NumberRange → List NumberRange → List NumberRange
all_spread s runs [] = []
all_spread s runs (r ∷ rs) = range_spread s runs r ++ all_spread s runs rs

-- the numbers of ranges, each with a digit of each set behind it
unfoldable pub spread : List NumberRange → List DigitSet → List NumberRange
spread rs [] = rs
spread rs (s ∷ ss) = spread (joined (all_spread s (runs s all_digits) rs)) ss

-- the digits that may stand before digits of the sets
abbrev pub first_digits : List DigitSet → List ℕ
first_digits [] = all_digits
first_digits (s ∷ ss) = front_digits

-- the numbers of one digit of each set
abbrev pub digits_ranges : List DigitSet → List NumberRange
digits_ranges [] = []
digits_ranges (s ∷ ss) = spread (runs s (first_digits ss)) ss

-- the numbers that a word spells
abbrev pub word_ranges : DigitWord → List NumberRange
word_ranges Any = between 0 greatest ∷ []
word_ranges (Digits ss) = digits_ranges ss

-- the numbers that the words spell, in the order of the words
unfoldable pub ranges_of_words : List DigitWord → List NumberRange
ranges_of_words [] = []
ranges_of_words (w ∷ ws) = word_ranges w ++ ranges_of_words ws

-- the numbers that one of the words spells, in rising ranges: words that spell the same numbers have one set
abbrev pub set_of_words : List DigitWord → NumberSet
set_of_words ws = record { ranges = rising (ranges_of_words ws) }
