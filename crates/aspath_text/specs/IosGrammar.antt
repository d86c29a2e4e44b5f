-- The grammar of IOS AS-path patterns: which text spells which pattern.
use Rattle.std.specs.Prelude.{◌≡◌, ℕ, ◌+◌, ◌^◌, ◌<◌, ◌≤◌, nat_le, ◌&&◌, List, [], ◌∷◌, ◌++◌, length, codes, ◌⊎◌}
use Rattle.std.specs.List.{concat, list_any}
use Rattle.route_types.specs.RouteText.{Each}
use Rattle.path_patterns.specs.Shape.{IsBranch}
use Rattle.path_patterns.specs.PathItems.{has_digit}
use Rattle.path_patterns.specs.declared.pattern.IosBranch.{IosBranch}
use Rattle.path_patterns.specs.declared.pattern.IosBranch.TheVariants.{EmptyPath, Pieces}
use Rattle.path_patterns.specs.declared.pattern.Mark.{Mark}
use Rattle.path_patterns.specs.declared.pattern.Mark.TheVariants.{Anchor, Under, Nothing}
use Rattle.path_patterns.specs.declared.pattern.Piece.{Piece}
use Rattle.path_patterns.specs.declared.pattern.Piece.TheVariants.{Anything, Set}
use Rattle.path_patterns.specs.declared.pattern.DigitWord.{DigitWord}
use Rattle.path_patterns.specs.declared.pattern.DigitWord.TheVariants.{Any, Digits}
use Rattle.path_patterns.specs.declared.pattern.DigitSet.{DigitSet}
use Rattle.path_patterns.specs.declared.pattern.Tail.{Tail}
use Rattle.path_patterns.specs.declared.pattern.Repeat.{Repeat}
use Rattle.path_patterns.specs.declared.pattern.Repeat.TheVariants.{Star, Plus, Maybe}

-- texts with a byte between each two of them
unfoldable pub joined_by : ℕ → List (List ℕ) → List ℕ
joined_by b [] = []
joined_by b (t ∷ []) = t
joined_by b (t ∷ u ∷ us) = t ++ (b ∷ joined_by b (u ∷ us))

-- the digits from one to another
pub record DigitRun : Type 0 where
  pub least : ℕ
  pub most : ℕ

-- a digit, or `d-e` with d not above e
pub record SpellsRun (text : List ℕ) (r : DigitRun) : Type 0 where
  pub rises : r.least ≤ r.most
  pub digit : r.most ≤ 9
  pub spelled : ((text ≡ (48 + r.least) ∷ []) × (r.most ≡ r.least)) ⊎ (text ≡ (48 + r.least) ∷ 45 ∷ (48 + r.most) ∷ [])

-- the set has just the digits that lie in one of the runs
abbrev pub IsSetOf : DigitSet → List DigitRun → Type 0
IsSetOf s runs = (s.0 < 1024) × ((d : ℕ) → d ≤ 9 → has_digit s d ≡ list_any (λ r. nat_le r.least d && nat_le d r.most) runs)

-- a class: one or more runs in brackets
pub record SpellsClass (text : List ℕ) (s : DigitSet) : Type 0 where
  pub runs : List DigitRun
  pub parts : List (List ℕ)
  pub spelled : text ≡ 91 ∷ (concat parts ++ (93 ∷ []))
  pub each : Each SpellsRun parts runs
  pub some : 1 ≤ length runs
  pub is : IsSetOf s runs

-- a digit or a class
abbrev pub SpellsDigitSet : List ℕ → DigitSet → Type 0
SpellsDigitSet text s = ((d : ℕ) × (d ≤ 9) × (text ≡ (48 + d) ∷ []) × (s.0 ≡ 2 ^ d)) ⊎ SpellsClass text s

-- `[0-9]+`, or one to ten digits and classes
abbrev pub SpellsWord : List ℕ → DigitWord → Type 0
SpellsWord text Any = text ≡ codes "[0-9]+"
SpellsWord text (Digits ss) = (parts : List (List ℕ)) × (text ≡ concat parts) × Each SpellsDigitSet parts ss × (1 ≤ length ss) × (length ss ≤ 10)

-- one word, or a group of words joined by `|`
abbrev pub SpellsSet : List ℕ → List DigitWord → Type 0
SpellsSet text ws =
    ((w : DigitWord) × (ws ≡ w ∷ []) × SpellsWord text w)
    ⊎ ((parts : List (List ℕ)) × (text ≡ 40 ∷ (joined_by 124 parts ++ (41 ∷ []))) × Each SpellsWord parts ws × (1 ≤ length ws))

-- the sign of repetition
abbrev pub repeat_sign : Repeat → ℕ
repeat_sign Star = 42
repeat_sign Plus = 43
repeat_sign Maybe = 63

-- `(_`, a set, `)` and a sign
abbrev pub SpellsTail : List ℕ → Tail → Type 0
SpellsTail text t = (set : List ℕ) × (text ≡ 40 ∷ 95 ∷ (set ++ (41 ∷ repeat_sign t.repeat ∷ []))) × SpellsSet set t.words

-- `.*`, or a set and any number of tails
abbrev pub SpellsPiece : List ℕ → Piece → Type 0
SpellsPiece text Anything = text ≡ codes ".*"
SpellsPiece text (Set s) = (set : List ℕ) × (tails : List (List ℕ)) × (text ≡ set ++ concat tails) × SpellsSet set s.words × Each SpellsTail tails s.tails

-- the mark on the left
abbrev pub left_text : Mark → List ℕ
left_text Anchor = codes "^"
left_text Under = codes "_"
left_text Nothing = []

-- the mark on the right
abbrev pub right_text : Mark → List ℕ
right_text Anchor = codes "$"
right_text Under = codes "_"
right_text Nothing = []

-- `^$`, or pieces joined by `_` between two marks, all of which fit
abbrev pub SpellsBranch : List ℕ → IosBranch → Type 0
SpellsBranch text EmptyPath = text ≡ codes "^$"
SpellsBranch text (Pieces b) =
    (parts : List (List ℕ)) × (text ≡ left_text b.left ++ (joined_by 95 parts ++ right_text b.right)) × Each SpellsPiece parts b.pieces × IsBranch (Pieces b)

-- one or more branches joined by `|`
pub record SpellsPattern (text : List ℕ) (bs : List IosBranch) : Type 0 where
  pub parts : List (List ℕ)
  pub spelled : text ≡ joined_by 124 parts
  pub each : Each SpellsBranch parts bs
  pub some : 1 ≤ length bs
