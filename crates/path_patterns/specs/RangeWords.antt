-- Ranges of numbers as digit words: what each word of a range spells.
use Rattle.std.specs.Prelude.{◌≡◌, ℕ, ◌+◌, ◌-◌, ◌^◌, ◌<◌, ◌≤◌, ◌%◌, Bool, ◌&&◌, ◌||◌, nat_le, min, true, List, length, decimal, ◌⊎◌}
use Rattle.std.specs.List.{list_any, AllByRecursion}
use Rattle.path_patterns.specs.Items.{in_range}
use Rattle.path_patterns.specs.Shape.{IsDigitWord}
use Rattle.path_patterns.specs.PathItems.{digits_fit, words_hold}
use Rattle.path_patterns.specs.declared.items.NumberRange.{NumberRange}
use Rattle.path_patterns.specs.declared.pattern.DigitWord.{DigitWord}
use Rattle.path_patterns.specs.declared.pattern.DigitWord.TheVariants.{Any, Digits}
use Rattle.path_patterns.specs.declared.pattern.DigitSet.{DigitSet}

-- the digits from one to another
abbrev pub run_of : ℕ → ℕ → DigitSet
run_of d e = record { 0 = 2 ^ (e + 1) - 2 ^ d }

-- the set has the digits of one run
pub record IsRun (s : DigitSet) : Type 0 where
  pub first : ℕ
  pub last : ℕ
  pub rises : first ≤ last
  pub digit : last ≤ 9
  pub is : s ≡ run_of first last

-- each set of the word is a run
abbrev pub IsRunWord : DigitWord → Type 0
IsRunWord Any = Unit {0}
IsRunWord (Digits ss) = AllByRecursion IsRun ss

-- each set of the words is a run
abbrev pub AreRuns : List DigitWord → Type 0
AreRuns ws = AllByRecursion IsRunWord ws

-- the last digit of the numbers that differ from a number in their last digit alone, up to another number
abbrev pub last_digit : ℕ → ℕ → ℕ
last_digit a b = min (a % 10 + (b - a)) 9

-- runs that spell the numbers from one to a last one, which is not above another
pub record IsBlock (a b : ℕ) (ss : List DigitSet) (last : ℕ) : Type 0 where
  pub starts : a ≤ last
  pub ends : last ≤ b
  pub some : 1 ≤ length ss
  pub runs : AllByRecursion IsRun ss
  pub spelled : (n : ℕ) → n < 2 ^ 32 → digits_fit ss (decimal n) ≡ (nat_le a n && nat_le n last)

-- words came to others, which spell more numbers
pub record IsGrown (before after : List DigitWord) (more : ℕ → Bool) : Type 0 where
  pub shaped : AllByRecursion IsDigitWord before → AllByRecursion IsDigitWord after
  pub runs : AreRuns before → AreRuns after
  pub holds : (n : ℕ) → n < 2 ^ 32 → words_hold after n ≡ (words_hold before n || more n)
  pub longer : length before ≤ length after
  pub some : (n : ℕ) → more n ≡ true → 1 ≤ length after

-- no range is empty
abbrev pub HaveNumbers : List NumberRange → Type 0
HaveNumbers rs = AllByRecursion (λ r. r.least ≤ r.most) rs

-- words that spell the numbers of all ranges but the rest
pub record AreWordsBefore (ws : List DigitWord) (rest all : List NumberRange) : Type 0 where
  pub shaped : AllByRecursion IsDigitWord ws
  pub runs : AreRuns ws
  pub holds : (n : ℕ) → n < 2 ^ 32 → (words_hold ws n || list_any (λ r. in_range r n) rest) ≡ list_any (λ r. in_range r n) all
  pub some : HaveNumbers all → (1 ≤ length ws) ⊎ (rest ≡ all)
