-- Items whose sets are digit words, as they come from the items of a pattern.
use Rattle.std.specs.Prelude.{◌≡◌, ℕ, ◌^◌, ◌<◌, Bool, true, false, List, [], ◌∷◌, ◌++◌, Option, Some, None, map}
use Rattle.std.specs.List.{AllByRecursion}
use Rattle.path_patterns.specs.Items.{AtMost, Takes, takes_of}
use Rattle.path_patterns.specs.IosForm.{word_takes}
use Rattle.path_patterns.specs.SamePaths.{SamePaths, NoPath, TakesNoPath}
use Rattle.path_patterns.specs.Shape.{AreDigitWords}
use Rattle.path_patterns.specs.PathItems.{words_hold}
use Rattle.path_patterns.specs.RangeWords.{AreRuns}
use Rattle.path_patterns.specs.declared.items.NumberRange.{NumberRange}
use Rattle.path_patterns.specs.declared.items.TokenItem.{TokenItem}
use Rattle.path_patterns.specs.declared.word_item.WordItem.{WordItem}
use Rattle.path_patterns.specs.declared.word_item.ItemWords.{ItemWords}
use Rattle.path_patterns.specs.declared.word_item.ItemWords.TheVariants.{Never, Absent, There}

-- digit words of runs, of which one spells some number, and counts that can be taken, not just none
pub record IsWordItem (i : WordItem) : Type 0 where
  pub words : AreDigitWords i.words
  pub runs : AreRuns i.words
  pub counts : AtMost i.least i.most
  pub one : AtMost 1 i.most
  pub number : ℕ
  pub small : number < 2 ^ 32
  pub spelled : words_hold i.words number ≡ true

-- each item is of that kind
abbrev pub AreWordItems : List WordItem → Type 0
AreWordItems is = AllByRecursion IsWordItem is

-- the least number of the first range
abbrev pub first_number : List NumberRange → Option ℕ
first_number [] = None
first_number (r ∷ rs) = Some r.least

-- an item of a pattern is never taken, or is left out, or takes what an item of words takes
abbrev pub BecomesWords : TokenItem → ItemWords → Type 0
BecomesWords i Never = TakesNoPath i
BecomesWords i Absent = (ts : List Takes) → SamePaths (takes_of i ∷ ts) ts
BecomesWords i (There w) = IsWordItem w × ((ts : List Takes) → SamePaths (takes_of i ∷ ts) (word_takes w ∷ ts))

-- an item of a pattern is put behind items of words, or it is never taken
abbrev pub AddsItem : List WordItem → TokenItem → List WordItem → Bool → Type 0
AddsItem before i now true = (AreWordItems before → AreWordItems now) × ((ts : List Takes) → SamePaths (map word_takes now ++ ts) (map word_takes before ++ (takes_of i ∷ ts)))
AddsItem before i now false = TakesNoPath i

-- items of words that take the same paths as the items of a pattern; none where these take no path
abbrev pub BecomeWords : List TokenItem → Option (List WordItem) → Type 0
BecomeWords items None = NoPath (map takes_of items)
BecomeWords items (Some ws) = AreWordItems ws × SamePaths (map word_takes ws) (map takes_of items)
