-- The shape of an IOS AS-path pattern.
use Rattle.std.specs.Prelude.{◌<◌, ◌≤◌, List, [], ◌∷◌, length}
use Rattle.std.specs.List.{AllByRecursion}
use Rattle.path_patterns.specs.declared.pattern.IosBranch.{IosBranch}
use Rattle.path_patterns.specs.declared.pattern.IosBranch.TheVariants.{EmptyPath, Pieces}
use Rattle.path_patterns.specs.declared.pattern.Mark.{Mark}
use Rattle.path_patterns.specs.declared.pattern.Mark.TheVariants.{Anchor, Under, Nothing}
use Rattle.path_patterns.specs.declared.pattern.Piece.{Piece}
use Rattle.path_patterns.specs.declared.pattern.Piece.TheVariants.{Anything, Set}
use Rattle.path_patterns.specs.declared.pattern.DigitWord.{DigitWord}
use Rattle.path_patterns.specs.declared.pattern.DigitWord.TheVariants.{Any, Digits}
use Rattle.path_patterns.specs.declared.pattern.DigitSet.{DigitSet}
use Rattle.path_patterns.specs.declared.pattern.Tail.{Tail}

-- at least one of the ten digits, and nothing else
abbrev pub IsDigitSet : DigitSet → Type 0
IsDigitSet d = (1 ≤ d.0) × (d.0 < 1024)

-- one to ten digits
abbrev pub IsDigitWord : DigitWord → Type 0
IsDigitWord Any = Unit {0}
IsDigitWord (Digits ds) = (1 ≤ length ds) × (length ds ≤ 10) × AllByRecursion IsDigitSet ds

-- at least one word
abbrev pub AreDigitWords : List DigitWord → Type 0
AreDigitWords ws = (1 ≤ length ws) × AllByRecursion IsDigitWord ws

-- the words of a tail
abbrev pub IsTail : Tail → Type 0
IsTail t = AreDigitWords t.words

-- the words of a piece and of its tails
abbrev pub IsPiece : Piece → Type 0
IsPiece Anything = Unit {0}
IsPiece (Set s) = AreDigitWords s.words × AllByRecursion IsTail s.tails

-- a mark may stand beside a piece: `_` not beside `.*`, and nothing only there
abbrev pub MarkFits : Mark → Piece → Type 0
MarkFits Anchor p = Unit {0}
MarkFits Under Anything = ⊥
MarkFits Under (Set s) = Unit {0}
MarkFits Nothing Anything = Unit {0}
MarkFits Nothing (Set s) = ⊥

-- two pieces may be neighbours: not two `.*`
abbrev pub PiecesFit : Piece → Piece → Type 0
PiecesFit Anything Anything = ⊥
PiecesFit Anything (Set s) = Unit {0}
PiecesFit (Set s) p = Unit {0}

-- at least one piece; neighbours fit, and the last one fits the right mark
abbrev pub PiecesEnd : List Piece → Mark → Type 0
PiecesEnd [] right = ⊥
PiecesEnd (p ∷ []) right = MarkFits right p
PiecesEnd (p ∷ q ∷ ps) right = PiecesFit p q × PiecesEnd (q ∷ ps) right

-- the first piece fits the left mark
abbrev pub PiecesStart : Mark → List Piece → Type 0
PiecesStart left [] = ⊥
PiecesStart left (p ∷ ps) = MarkFits left p

-- a branch is `^$`, or pieces that fit one another and the marks
abbrev pub IsBranch : IosBranch → Type 0
IsBranch EmptyPath = Unit {0}
IsBranch (Pieces b) = AllByRecursion IsPiece b.pieces × PiecesStart b.left b.pieces × PiecesEnd b.pieces b.right

-- at least one branch, each of the shape
abbrev pub IsShaped : List IosBranch → Type 0
IsShaped bs = (1 ≤ length bs) × AllByRecursion IsBranch bs
