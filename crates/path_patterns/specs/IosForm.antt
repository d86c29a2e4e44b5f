-- The branches of an IOS pattern that match the same paths as items whose sets are digit words. An item of
-- m to n numbers is m pieces; the last one has a tail `?` for each further number, or one tail `*` where
-- there is no upper end. An item that may be absent is tails of the piece before it; in front there is no
-- such piece, and the branches go by the first item that is there.
use Rattle.std.specs.Prelude.{ℕ, ◌-◌, Bool, true, false, cond, ◌&&◌, ◌==◌, nat_le, List, [], ◌∷◌, ◌++◌, Option, Some, None, option_map, is_none, replicate}
use Rattle.path_patterns.specs.Items.{Takes}
use Rattle.path_patterns.specs.PathItems.{words_hold, set_takes, tail_takes}
use Rattle.path_patterns.specs.declared.word_item.WordItem.{WordItem}
use Rattle.path_patterns.specs.declared.pattern.IosBranch.{IosBranch}
use Rattle.path_patterns.specs.declared.pattern.IosBranch.TheVariants.{EmptyPath, Pieces}
use Rattle.path_patterns.specs.declared.pattern.Mark.{Mark}
use Rattle.path_patterns.specs.declared.pattern.Mark.TheVariants.{Anchor, Under, Nothing}
use Rattle.path_patterns.specs.declared.pattern.Piece.{Piece}
use Rattle.path_patterns.specs.declared.pattern.Piece.TheVariants.{Anything, Set}
use Rattle.path_patterns.specs.declared.pattern.PieceSet.{PieceSet}
use Rattle.path_patterns.specs.declared.pattern.DigitWord.{DigitWord}
use Rattle.path_patterns.specs.declared.pattern.DigitWord.TheVariants.{Any, Digits}
use Rattle.path_patterns.specs.declared.pattern.Tail.{Tail}
use Rattle.path_patterns.specs.declared.pattern.Repeat.TheVariants.{Star, Maybe}

-- what an item takes
abbrev pub word_takes : WordItem → Takes
word_takes i = record { fits = words_hold i.words; least = i.least; most = i.most }

-- what stands behind the first piece: one more piece, or one more tail of the piece before it
pub data PathStep : Type 0 where
  One : List DigitWord → PathStep
  More : Tail → PathStep

-- what a step takes
abbrev pub step_takes : PathStep → Takes
step_takes (One ws) = set_takes ws
step_takes (More t) = tail_takes t

-- the pieces that steps make, from the one that is begun
unfoldable pub pieces_from : PieceSet → List PathStep → List Piece
pieces_from s [] = Set s ∷ []
pieces_from s (One ws ∷ us) = Set s ∷ pieces_from (record { words = ws; tails = [] }) us
pieces_from s (More t ∷ us) = pieces_from (record { words = s.words; tails = s.tails ++ (t ∷ []) }) us

-- a tail `?` for each number above the least count, or one tail `*`
abbrev pub further_steps : List DigitWord → ℕ → Option ℕ → List PathStep
further_steps ws least None = More (record { words = ws; repeat = Star }) ∷ []
further_steps ws least (Some most) = replicate (most - least) (More (record { words = ws; repeat = Maybe }))

-- the steps of an item behind a piece
abbrev pub item_steps : WordItem → List PathStep
item_steps i = replicate i.least (One i.words) ++ further_steps i.words i.least i.most

-- the item can't be absent
abbrev pub takes_one : WordItem → Bool
takes_one i = nat_le 1 i.least

-- the words are `[0-9]+` alone
abbrev pub are_any : List DigitWord → Bool
are_any [] = false
are_any (Any ∷ []) = true
are_any (Any ∷ w ∷ ws) = false
are_any (Digits ss ∷ ws) = false

-- any numbers, zero or more
abbrev pub is_free : WordItem → Bool
is_free i = are_any i.words && (i.least == 0 && is_none i.most)

-- the item is free, the last one, and behind an item that can't be absent
abbrev pub closes : Bool → WordItem → List WordItem → Bool
closes behind i [] = behind && is_free i
closes behind i (j ∷ js) = false

-- the steps of items, without a free one that closes them
unfoldable pub steps_behind : Bool → List WordItem → List PathStep
steps_behind behind [] = []
steps_behind behind (i ∷ is) = cond (closes behind i is) [] (item_steps i ++ steps_behind (takes_one i) is)

-- the right mark: `_` where a free item closes them
unfoldable pub right_behind : Bool → List WordItem → Mark
right_behind behind [] = Anchor
right_behind behind (i ∷ is) = cond (closes behind i is) Under (right_behind (takes_one i) is)

-- what an item takes behind its first number
abbrev pub behind_first : WordItem → WordItem
behind_first i = record { words = i.words; least = i.least - 1; most = option_map (λ m. m - 1) i.most }

-- the branch of items of which the first one is there
abbrev pub branch_from : Mark → WordItem → List WordItem → IosBranch
branch_from mark i is = Pieces (record {
  left = mark;
  pieces = pieces_from (record { words = i.words; tails = [] }) (item_steps (behind_first i) ++ steps_behind true is);
  right = right_behind true is;
})

-- one branch for each item that can be the first one that is there; `^$` where all can be absent
unfoldable pub branches_from : List WordItem → List IosBranch
branches_from [] = EmptyPath ∷ []
branches_from (i ∷ is) = branch_from Anchor i is ∷ cond (takes_one i) [] (branches_from is)

-- `.*`
abbrev pub anything : IosBranch
anything = Pieces (record { left = Nothing; pieces = Anything ∷ []; right = Nothing })

-- the branches of items: `.*` for a free item alone; a free item before one that can't be absent is the
-- left mark `_`
abbrev pub item_branches : List WordItem → List IosBranch
item_branches [] = branches_from []
item_branches (i ∷ []) = cond (is_free i) (anything ∷ []) (branches_from (i ∷ []))
item_branches (i ∷ j ∷ js) = cond (is_free i && takes_one j) (branch_from Under j js ∷ []) (branches_from (i ∷ j ∷ js))
