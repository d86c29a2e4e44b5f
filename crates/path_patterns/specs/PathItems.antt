-- What the pieces of an IOS pattern take from the numbers of a path: `.*` as the first or the last piece,
-- and a mark `_`, take zero or more numbers; `.*` between two sets takes one or more.
use Rattle.std.specs.Prelude.{ℕ, ◌-◌, ◌/◌, ◌%◌, ◌^◌, Bool, true, false, ◌&&◌, ◌==◌, List, [], ◌∷◌, ◌++◌, Option, Some, None, map, decimal}
use Rattle.std.specs.List.{list_any}
use Rattle.path_patterns.specs.Items.{Takes}
use Rattle.path_patterns.specs.declared.pattern.IosBranch.{IosBranch}
use Rattle.path_patterns.specs.declared.pattern.IosBranch.TheVariants.{EmptyPath, Pieces}
use Rattle.path_patterns.specs.declared.pattern.Mark.{Mark}
use Rattle.path_patterns.specs.declared.pattern.Mark.TheVariants.{Anchor, Under, Nothing}
use Rattle.path_patterns.specs.declared.pattern.Piece.{Piece}
use Rattle.path_patterns.specs.declared.pattern.Piece.TheVariants.{Anything, Set}
use Rattle.path_patterns.specs.declared.pattern.DigitWord.{DigitWord}
use Rattle.path_patterns.specs.declared.pattern.DigitWord.TheVariants.{Any, Digits}
use Rattle.path_patterns.specs.declared.pattern.DigitSet.{DigitSet}
use Rattle.path_patterns.specs.declared.pattern.Tail.{Tail}
use Rattle.path_patterns.specs.declared.pattern.Repeat.{Repeat}
use Rattle.path_patterns.specs.declared.pattern.Repeat.TheVariants.{Star, Plus, Maybe}

-- the digit is in the set
abbrev pub has_digit : DigitSet → ℕ → Bool
has_digit s d = s.0 / 2 ^ d % 2 == 1

-- there are as many digits as sets, and each is in its set
unfoldable pub digits_fit : List DigitSet → List ℕ → Bool
digits_fit [] [] = true
digits_fit [] (c ∷ cs) = false
digits_fit (s ∷ ss) [] = false
digits_fit (s ∷ ss) (c ∷ cs) = has_digit s (c - 48) && digits_fit ss cs

-- the word spells these digits
abbrev pub word_fits : DigitWord → List ℕ → Bool
word_fits Any ds = true
word_fits (Digits ss) ds = digits_fit ss ds

-- the word spells the number
abbrev pub word_holds : DigitWord → ℕ → Bool
word_holds w n = word_fits w (decimal n)

-- one of the words does
abbrev pub words_hold : List DigitWord → ℕ → Bool
words_hold ws n = list_any (λ w. word_holds w n) ws

-- any numbers, so many or more
abbrev pub any_numbers : ℕ → Takes
any_numbers least = record { fits = λ n. true; least = least; most = None }

-- how often a tail is taken at least
abbrev pub least_turns : Repeat → ℕ
least_turns Star = 0
least_turns Plus = 1
least_turns Maybe = 0

-- how often it is taken at most, where there is an upper end
abbrev pub most_turns : Repeat → Option ℕ
most_turns Star = None
most_turns Plus = None
most_turns Maybe = Some 1

-- what a tail takes
abbrev pub tail_takes : Tail → Takes
tail_takes t = record { fits = words_hold t.words; least = least_turns t.repeat; most = most_turns t.repeat }

-- what a set takes
abbrev pub set_takes : List DigitWord → Takes
set_takes ws = record { fits = words_hold ws; least = 1; most = Some 1 }

-- what pieces take that stand behind another one
unfoldable pub later_takes : List Piece → List Takes
later_takes [] = []
later_takes (Anything ∷ []) = any_numbers 0 ∷ []
later_takes (Anything ∷ p ∷ ps) = any_numbers 1 ∷ later_takes (p ∷ ps)
later_takes (Set s ∷ ps) = set_takes s.words ∷ (map tail_takes s.tails ++ later_takes ps)

-- what all pieces take
abbrev pub pieces_takes : List Piece → List Takes
pieces_takes (Anything ∷ ps) = any_numbers 0 ∷ later_takes ps
pieces_takes ps = later_takes ps

-- what a mark takes
abbrev pub mark_takes : Mark → List Takes
mark_takes Anchor = []
mark_takes Under = any_numbers 0 ∷ []
mark_takes Nothing = []

-- what a branch takes
abbrev pub branch_takes : IosBranch → List Takes
branch_takes EmptyPath = []
branch_takes (Pieces b) = mark_takes b.left ++ (pieces_takes b.pieces ++ mark_takes b.right)
