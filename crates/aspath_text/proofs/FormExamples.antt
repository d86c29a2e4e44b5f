-- Texts of items, computed by the checker.
use Rattle.std.proofs.Common.{◌≡◌, refl, ap, ◌∙◌, ℕ, ◌+◌, ◌/◌, ◌%◌, ◌^◌, ◌<◌, ◌≤◌, List, [], ◌∷◌, ◌++◌, codes, map, Option, Some, None, arith}
use Rattle.std.specs.Prelude.{decimal}
use Rattle.std.proofs.lemmas.Fmt.{decimal_digit, decimal_step}
use Rattle.aspath_text.specs.IosGrammar.{joined_by}
use Rattle.path_patterns.specs.IosForm.{pieces_from, steps_behind, right_behind, branches_from, item_branches}
use Rattle.aspath_text.specs.IosText.{first_in, ios_text, rest_text, starts_text, items_text as starts}
use Rattle.aspath_text.specs.JunosText.{range_text, set_text, count_text, item_text, items_text}
use Rattle.path_patterns.specs.RangeWords.{run_of}
use Rattle.path_patterns.specs.declared.items.TokenItem.{TokenItem}
use Rattle.path_patterns.specs.declared.word_item.WordItem.{WordItem}
use Rattle.path_patterns.specs.declared.pattern.DigitWord.{DigitWord}
use Rattle.path_patterns.specs.declared.pattern.DigitWord.TheVariants.{Any, Digits}

-- an item of one word
abbrev item : DigitWord → ℕ → Option ℕ → WordItem
item w least most = record { words = w ∷ []; least = least; most = most }

-- the word of one digit
abbrev digit : ℕ → DigitWord
digit d = Digits (run_of d d ∷ [])

-- `1 .+ 2`
between : ios_text (item_branches (item (digit 1) 1 (Some 1) ∷ item Any 1 None ∷ item (digit 2) 1 (Some 1) ∷ [])) ≡ codes "^1_[0-9]+(_[0-9]+)*_2$"
unfolding joined_by pieces_from steps_behind right_behind branches_from first_in
between = refl

-- `.* 1-4 .*`
somewhere : ios_text (item_branches (item Any 0 None ∷ item (Digits (run_of 1 4 ∷ [])) 1 (Some 1) ∷ item Any 0 None ∷ [])) ≡ codes "_[1-4]_"
unfolding joined_by pieces_from steps_behind right_behind branches_from first_in
somewhere = refl

-- `1? 2`
maybe_first : ios_text (item_branches (item (digit 1) 0 (Some 1) ∷ item (digit 2) 1 (Some 1) ∷ [])) ≡ codes "^1_2$|^2$"
unfolding joined_by pieces_from steps_behind right_behind branches_from first_in
maybe_first = refl

-- `.* 1? 2`, with a `|` before each branch
absent_in_front : starts (item Any 0 None ∷ item (digit 1) 0 (Some 1) ∷ item (digit 2) 1 (Some 1) ∷ []) ≡ codes "|^[0-9]+(_[0-9]+)*(_1)?_2$|^1_2$|^2$"
unfolding first_in rest_text starts_text
absent_in_front = refl

-- `1{2,3}`
twice_or_more : ios_text (item_branches (item (digit 1) 2 (Some 3) ∷ [])) ≡ codes "^1_1(_1)?$"
unfolding joined_by pieces_from steps_behind right_behind branches_from first_in
twice_or_more = refl

-- ---- the texts that documents of this project show

-- a word of digits that are there alone
abbrev digits : List ℕ → DigitWord
digits ds = Digits (map (λ d. run_of d d) ds)

-- `65001 .+ 65002`
numbers_between : ios_text (item_branches (item (digits (6 ∷ 5 ∷ 0 ∷ 0 ∷ 1 ∷ [])) 1 (Some 1) ∷ item Any 1 None ∷ item (digits (6 ∷ 5 ∷ 0 ∷ 0 ∷ 2 ∷ [])) 1 (Some 1) ∷ [])) ≡ codes "^65001_[0-9]+(_[0-9]+)*_65002$"
unfolding joined_by pieces_from steps_behind right_behind branches_from first_in
numbers_between = refl

-- the numbers 64512 to 65534 as words
abbrev many_words : List DigitWord
many_words =
    Digits (run_of 6 6 ∷ run_of 4 4 ∷ run_of 5 5 ∷ run_of 1 1 ∷ run_of 2 9 ∷ [])
    ∷ Digits (run_of 6 6 ∷ run_of 4 4 ∷ run_of 5 5 ∷ run_of 2 9 ∷ run_of 0 9 ∷ [])
    ∷ Digits (run_of 6 6 ∷ run_of 4 4 ∷ run_of 6 9 ∷ run_of 0 9 ∷ run_of 0 9 ∷ [])
    ∷ Digits (run_of 6 6 ∷ run_of 5 5 ∷ run_of 0 4 ∷ run_of 0 9 ∷ run_of 0 9 ∷ [])
    ∷ Digits (run_of 6 6 ∷ run_of 5 5 ∷ run_of 5 5 ∷ run_of 0 2 ∷ run_of 0 9 ∷ [])
    ∷ Digits (run_of 6 6 ∷ run_of 5 5 ∷ run_of 5 5 ∷ run_of 3 3 ∷ run_of 0 4 ∷ [])
    ∷ []

-- `.* 64512-65534 .*`
many_somewhere : ios_text (item_branches (item Any 0 None ∷ record { words = many_words; least = 1; most = Some 1 } ∷ item Any 0 None ∷ []))
    ≡ codes "_(6451[2-9]|645[2-9][0-9]|64[6-9][0-9][0-9]|65[0-4][0-9][0-9]|655[0-2][0-9]|6553[0-4])_"
unfolding joined_by pieces_from steps_behind right_behind branches_from first_in
many_somewhere = refl

-- ---- Junos

-- an item of the numbers from one to another
abbrev numbers : ℕ → ℕ → ℕ → Option ℕ → TokenItem
numbers a b least most = record { set = record { ranges = record { least = a; most = b } ∷ [] }; least = least; most = most }

-- the text of a number is that of its front, and its last digit
behind : (n : ℕ) (front : List ℕ) → 10 ≤ n → n < 2 ^ 64 → decimal (n / 10) ≡ front → decimal n ≡ front ++ (48 + n % 10) ∷ []
behind n front more most e = decimal_step n more most ∙ ap (λ (ds : List ℕ). ds ++ (48 + n % 10) ∷ []) e

from_64512 : decimal 64512 ≡ codes "64512"
from_64512 = behind 64512 (codes "6451") (omega arith) (omega arith) (behind 6451 (codes "645") (omega arith) (omega arith) (behind 645 (codes "64") (omega arith) (omega arith) (behind 64 (codes "6") (omega arith) (omega arith) (decimal_digit 6 (omega arith)))))

to_64519 : decimal 64519 ≡ codes "64519"
to_64519 = behind 64519 (codes "6451") (omega arith) (omega arith) (behind 6451 (codes "645") (omega arith) (omega arith) (behind 645 (codes "64") (omega arith) (omega arith) (behind 64 (codes "6") (omega arith) (omega arith) (decimal_digit 6 (omega arith)))))

-- `_6451[2-9]_` in Junos
range_somewhere : items_text (numbers 0 4294967295 0 None ∷ numbers 64512 64519 1 (Some 1) ∷ numbers 0 4294967295 0 None ∷ []) ≡ codes ".* 64512-64519 .*"
unfolding range_text set_text count_text item_text items_text joined_by
range_somewhere = rw (from_64512, to_64519) refl

-- `^1_.*_2$` in Junos
some_between : items_text (numbers 1 1 1 (Some 1) ∷ numbers 0 4294967295 1 None ∷ numbers 2 2 1 (Some 1) ∷ []) ≡ codes "1 .+ 2"
unfolding range_text set_text count_text item_text items_text joined_by
some_between = rw (decimal_digit 1 (omega arith), decimal_digit 2 (omega arith)) refl
