-- The items of an IOS pattern: those of its marks, its pieces and their tails.
use Rattle.std.specs.Prelude.{ℕ, List, [], ◌∷◌, ◌++◌, Some, None, map}
use Rattle.path_patterns.specs.Items.{greatest}
use Rattle.path_patterns.specs.PathItems.{least_turns, most_turns}
use Rattle.path_patterns.specs.DigitRanges.{between, set_of_words}
use Rattle.path_patterns.specs.declared.items.NumberSet.{NumberSet}
use Rattle.path_patterns.specs.declared.items.TokenItem.{TokenItem}
use Rattle.path_patterns.specs.declared.items.TokenBranch.{TokenBranch}
use Rattle.path_patterns.specs.declared.items.TokenPattern.{TokenPattern}
use Rattle.path_patterns.specs.declared.pattern.IosBranch.{IosBranch}
use Rattle.path_patterns.specs.declared.pattern.IosBranch.TheVariants.{EmptyPath, Pieces}
use Rattle.path_patterns.specs.declared.pattern.Mark.{Mark}
use Rattle.path_patterns.specs.declared.pattern.Mark.TheVariants.{Anchor, Under, Nothing}
use Rattle.path_patterns.specs.declared.pattern.Piece.{Piece}
use Rattle.path_patterns.specs.declared.pattern.Piece.TheVariants.{Anything, Set}
use Rattle.path_patterns.specs.declared.pattern.DigitWord.{DigitWord}
use Rattle.path_patterns.specs.declared.pattern.Tail.{Tail}

-- all numbers
abbrev pub all_numbers : NumberSet
all_numbers = record { ranges = between 0 greatest ∷ [] }

-- any numbers, so many or more
abbrev pub any_item : ℕ → TokenItem
any_item least = record { set = all_numbers; least = least; most = None }

-- a number of a set
abbrev pub set_item : List DigitWord → TokenItem
set_item ws = record { set = set_of_words ws; least = 1; most = Some 1 }

-- the numbers of a tail
abbrev pub tail_item : Tail → TokenItem
tail_item t = record { set = set_of_words t.words; least = least_turns t.repeat; most = most_turns t.repeat }

-- the items of pieces that stand behind another one
unfoldable pub later_items : List Piece → List TokenItem
later_items [] = []
later_items (Anything ∷ []) = any_item 0 ∷ []
later_items (Anything ∷ p ∷ ps) = any_item 1 ∷ later_items (p ∷ ps)
later_items (Set s ∷ ps) = set_item s.words ∷ (map tail_item s.tails ++ later_items ps)

-- the items of all pieces
abbrev pub pieces_items : List Piece → List TokenItem
pieces_items (Anything ∷ ps) = any_item 0 ∷ later_items ps
pieces_items ps = later_items ps

-- the items of a mark
abbrev pub mark_items : Mark → List TokenItem
mark_items Anchor = []
mark_items Under = any_item 0 ∷ []
mark_items Nothing = []

-- the items of a branch
abbrev pub branch_items : IosBranch → List TokenItem
branch_items EmptyPath = []
branch_items (Pieces b) = mark_items b.left ++ (pieces_items b.pieces ++ mark_items b.right)

-- the items of each branch
abbrev pub branches_items : List IosBranch → List TokenBranch
branches_items bs = map (λ b. record { items = branch_items b }) bs

-- the items of a pattern
abbrev pub token_form : List IosBranch → TokenPattern
token_form bs = record { branches = branches_items bs }
