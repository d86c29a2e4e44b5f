-- Examples of digit words as ranges, and of a pattern as items, that the checker computes.
use Rattle.std.proofs.Common.{◌≡◌, refl, ℕ, ◌+◌, ◌^◌, List, [], ◌∷◌, ◌++◌, Some}
use Rattle.std.specs.Prelude.{replicate}
use Rattle.path_patterns.specs.MergedRanges.{joined_from, put, rising}
use Rattle.path_patterns.specs.DigitRanges.{between, chosen, one_spread, each_spread, all_spread, spread, ranges_of_words, set_of_words}
use Rattle.path_patterns.specs.RangeCounts.{words_count, ranges_behind}
use Rattle.path_patterns.specs.RangeWords.{run_of}
use Rattle.path_patterns.specs.TokenForm.{any_item, branch_items, later_items}
use Rattle.path_patterns.specs.declared.items.NumberRange.{NumberRange}
use Rattle.path_patterns.specs.declared.pattern.DigitSet.{DigitSet}
use Rattle.path_patterns.specs.declared.pattern.DigitWord.{DigitWord}
use Rattle.path_patterns.specs.declared.pattern.DigitWord.TheVariants.{Any, Digits}
use Rattle.path_patterns.specs.declared.pattern.IosBranch.TheVariants.{Pieces}
use Rattle.path_patterns.specs.declared.pattern.Mark.TheVariants.{Anchor, Under}
use Rattle.path_patterns.specs.declared.pattern.Piece.TheVariants.{Anything, Set}
use Rattle.path_patterns.specs.declared.pattern.Repeat.TheVariants.{Star}

-- the ranges of words
abbrev ranges_of : List DigitWord → List NumberRange
ranges_of ws = (set_of_words ws).ranges

-- a digit, and all digits
abbrev one : ℕ → DigitSet
one d = run_of d d

abbrev any : DigitSet
any = run_of 0 9

-- `[0-9]+`
every_number : ranges_of (Any ∷ []) ≡ between 0 4294967295 ∷ []
unfolding ranges_of_words joined_from put rising
every_number = refl

-- `[0-9]`
one_digit : ranges_of (Digits (any ∷ []) ∷ []) ≡ between 0 9 ∷ []
unfolding ranges_of_words joined_from put rising chosen spread
one_digit = refl

-- `0[0-9]`
leading_zero : ranges_of (Digits (one 0 ∷ any ∷ []) ∷ []) ≡ []
unfolding ranges_of_words joined_from put rising chosen one_spread each_spread all_spread spread
leading_zero = refl

-- `6451[2-9]`
last_run : ranges_of (Digits (one 6 ∷ one 4 ∷ one 5 ∷ one 1 ∷ run_of 2 9 ∷ []) ∷ []) ≡ between 64512 64519 ∷ []
unfolding ranges_of_words joined_from put rising chosen one_spread each_spread all_spread spread
last_run = refl

-- `1[059]`
apart : ranges_of (Digits (one 1 ∷ record { 0 = 2 ^ 0 + 2 ^ 5 + 2 ^ 9 } ∷ []) ∷ []) ≡ between 10 10 ∷ between 15 15 ∷ between 19 19 ∷ []
unfolding ranges_of_words joined_from put rising chosen one_spread each_spread all_spread spread
apart = refl

-- `([1-9]|[1-9][0-9])`
two_words : ranges_of (Digits (run_of 1 9 ∷ []) ∷ Digits (run_of 1 9 ∷ any ∷ []) ∷ []) ≡ between 1 99 ∷ []
unfolding ranges_of_words joined_from put rising chosen one_spread each_spread all_spread spread
two_words = refl

-- `(7|12|[5-9])`: in rising order, whatever the order of the words
in_order : ranges_of (Digits (one 7 ∷ []) ∷ Digits (one 1 ∷ one 2 ∷ []) ∷ Digits (run_of 5 9 ∷ []) ∷ []) ≡ between 5 9 ∷ between 12 12 ∷ []
unfolding ranges_of_words joined_from put rising chosen one_spread each_spread all_spread spread
in_order = refl

-- ten digits
ten_digits : ranges_of (Digits (run_of 3 9 ∷ any ∷ any ∷ any ∷ any ∷ any ∷ any ∷ any ∷ any ∷ any ∷ []) ∷ []) ≡ between 3000000000 4294967295 ∷ []
unfolding ranges_of_words joined_from put rising chosen one_spread each_spread all_spread spread
ten_digits = refl

-- `^[1-3](_[0-9]+)*_.*_9_`
items : branch_items (Pieces (record {
  left = Anchor;
  pieces = Set (record { words = Digits (run_of 1 3 ∷ []) ∷ []; tails = record { words = Any ∷ []; repeat = Star } ∷ [] }) ∷ Anything ∷ Set (record { words = Digits (one 9 ∷ []) ∷ []; tails = [] }) ∷ [];
  right = Under;
}))
    ≡ record { set = record { ranges = between 1 3 ∷ [] }; least = 1; most = Some 1 } ∷ any_item 0 ∷ any_item 1 ∷ record { set = record { ranges = between 9 9 ∷ [] }; least = 1; most = Some 1 } ∷ any_item 0 ∷ []
unfolding later_items ranges_of_words joined_from put rising chosen spread
items = refl

-- ---- counts

-- `[13579]` and `[02468]`
abbrev odd : DigitSet
odd = record { 0 = 2 + 8 + 32 + 128 + 512 }

abbrev even : DigitSet
even = record { 0 = 1 + 4 + 16 + 64 + 256 }

three_odd : words_count (Digits (odd ∷ odd ∷ odd ∷ []) ∷ []) ≡ 125
unfolding words_count ranges_behind joined_from chosen
three_odd = refl

ten_odd : words_count (Digits (replicate 10 odd) ∷ []) ≡ 9765625
unfolding words_count ranges_behind joined_from chosen
ten_odd = refl

last_even : words_count (Digits (replicate 9 any ++ even ∷ []) ∷ []) ≡ 4500000000
unfolding words_count ranges_behind joined_from chosen
last_even = refl

-- `_6451[2-9]_` is `.* 64512-64519 .*`
somewhere : branch_items (Pieces (record { left = Under; pieces = Set (record { words = Digits (one 6 ∷ one 4 ∷ one 5 ∷ one 1 ∷ run_of 2 9 ∷ []) ∷ []; tails = [] }) ∷ []; right = Under }))
    ≡ any_item 0 ∷ record { set = record { ranges = between 64512 64519 ∷ [] }; least = 1; most = Some 1 } ∷ any_item 0 ∷ []
unfolding later_items ranges_of_words joined_from put rising chosen one_spread each_spread all_spread spread
somewhere = refl
