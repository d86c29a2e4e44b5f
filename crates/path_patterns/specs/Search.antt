-- An IOS AS-path pattern is searched in the text of a path (Cisco IOS IP Routing: BGP command reference,
-- 'ip as-path access-list'; Cisco IOS Terminal Services, 'Regular Expressions'). A place in the text is
-- what stands from it to the end. 'A piece spans one place to another' goes by cases on characters.
use Rattle.std.specs.Prelude.{◌≡◌, ℕ, zero, suc, ◌+◌, ◌/◌, ◌%◌, ◌^◌, ◌≤◌, true, List, [], ◌∷◌, ◌++◌, length, decimal, ◌⊎◌}
use Rattle.std.specs.List.{list_all}
use Rattle.route_types.specs.Words.{is_digit}
use Rattle.path_patterns.specs.Items.{SomeOf}
use Rattle.path_patterns.specs.declared.pattern.IosBranch.{IosBranch}
use Rattle.path_patterns.specs.declared.pattern.IosBranch.TheVariants.{EmptyPath, Pieces}
use Rattle.path_patterns.specs.declared.pattern.Mark.{Mark}
use Rattle.path_patterns.specs.declared.pattern.Mark.TheVariants.{Anchor, Under, Nothing}
use Rattle.path_patterns.specs.declared.pattern.Piece.{Piece}
use Rattle.path_patterns.specs.declared.pattern.Piece.TheVariants.{Anything, Set}
use Rattle.path_patterns.specs.declared.pattern.DigitWord.{DigitWord}
use Rattle.path_patterns.specs.declared.pattern.DigitWord.TheVariants.{Any, Digits}
use Rattle.path_patterns.specs.declared.pattern.DigitSet.{DigitSet}
use Rattle.path_patterns.specs.declared.pattern.Tail.{Tail}
use Rattle.path_patterns.specs.declared.pattern.Repeat.{Repeat}
use Rattle.path_patterns.specs.declared.pattern.Repeat.TheVariants.{Star, Plus, Maybe}

-- the text of a path: its numbers in decimal, joined by one space
unfoldable pub path_text : List ℕ → List ℕ
path_text [] = []
path_text (n ∷ []) = decimal n
path_text (n ∷ m ∷ ns) = decimal n ++ (32 ∷ path_text (m ∷ ns))

-- the digit is in the set
abbrev pub HasDigit : DigitSet → ℕ → Type 0
HasDigit s d = (d ≤ 9) × (s.0 / 2 ^ d % 2 ≡ 1)

-- `_` spans a space, and nothing at the start and at the end of the text
abbrev pub SpansUnder : List ℕ → List ℕ → List ℕ → Type 0
SpansUnder text from to = (from ≡ 32 ∷ to) ⊎ ((from ≡ to) × ((from ≡ text) ⊎ (from ≡ [])))

-- `^` spans nothing, at the start of the text
abbrev pub SpansLeft : List ℕ → Mark → List ℕ → List ℕ → Type 0
SpansLeft text Anchor from to = (from ≡ text) × (from ≡ to)
SpansLeft text Under from to = SpansUnder text from to
SpansLeft text Nothing from to = from ≡ to

-- `$` spans nothing, at the end of the text
abbrev pub SpansRight : List ℕ → Mark → List ℕ → List ℕ → Type 0
SpansRight text Anchor from to = (from ≡ []) × (from ≡ to)
SpansRight text Under from to = SpansUnder text from to
SpansRight text Nothing from to = from ≡ to

-- digits and classes span one character each
unfoldable pub SpansDigits : List DigitSet → List ℕ → List ℕ → Type 0
SpansDigits [] from to = from ≡ to
SpansDigits (s ∷ ss) from to = (d : ℕ) × (mid : List ℕ) × HasDigit s d × (from ≡ (48 + d) ∷ mid) × SpansDigits ss mid to

-- `[0-9]+` spans one or more digits
abbrev pub SpansWord : DigitWord → List ℕ → List ℕ → Type 0
SpansWord Any from to = (digits : List ℕ) × (from ≡ digits ++ to) × (1 ≤ length digits) × (list_all is_digit digits ≡ true)
SpansWord (Digits ss) from to = SpansDigits ss from to

-- a bar spans where one side does
abbrev pub SpansSet : List DigitWord → List ℕ → List ℕ → Type 0
SpansSet ws from to = SomeOf (λ w. SpansWord w from to) ws

-- so often one after the other
unfoldable pub Repeated : (List ℕ → List ℕ → Type 0) → ℕ → List ℕ → List ℕ → Type 0
Repeated P zero from to = from ≡ to
Repeated P (suc n) from to = (mid : List ℕ) × P from mid × Repeated P n mid to

-- `*`, `+`, `?`: zero or more, one or more, at most one
abbrev pub Allows : Repeat → ℕ → Type 0
Allows Star n = Unit {0}
Allows Plus n = 1 ≤ n
Allows Maybe n = n ≤ 1

-- what is repeated: `_` and the set
abbrev pub SpansTurn : List ℕ → List DigitWord → List ℕ → List ℕ → Type 0
SpansTurn text ws from to = (mid : List ℕ) × SpansUnder text from mid × SpansSet ws mid to

-- a tail spans as many turns as its sign allows
abbrev pub SpansTail : List ℕ → Tail → List ℕ → List ℕ → Type 0
SpansTail text t from to = (n : ℕ) × Allows t.repeat n × Repeated (SpansTurn text t.words) n from to

-- tails span each in turn
unfoldable pub SpansTails : List ℕ → List Tail → List ℕ → List ℕ → Type 0
SpansTails text [] from to = from ≡ to
SpansTails text (t ∷ ts) from to = (mid : List ℕ) × SpansTail text t from mid × SpansTails text ts mid to

-- `.*` spans anything; a set spans by one of its words, and then its tails do
abbrev pub SpansPiece : List ℕ → Piece → List ℕ → List ℕ → Type 0
SpansPiece text Anything from to = (front : List ℕ) × (from ≡ front ++ to)
SpansPiece text (Set s) from to = (mid : List ℕ) × SpansSet s.words from mid × SpansTails text s.tails mid to

-- pieces span each in turn, with `_` between two of them
unfoldable pub SpansPieces : List ℕ → List Piece → List ℕ → List ℕ → Type 0
SpansPieces text [] from to = from ≡ to
SpansPieces text (p ∷ []) from to = SpansPiece text p from to
SpansPieces text (p ∷ q ∷ ps) from to =
    (behind : List ℕ) × (next : List ℕ) × SpansPiece text p from behind × SpansUnder text behind next × SpansPieces text (q ∷ ps) next to

-- `^$` spans the empty text; other branches span their marks and pieces in turn
abbrev pub SpansBranch : List ℕ → IosBranch → List ℕ → List ℕ → Type 0
SpansBranch text EmptyPath from to = (from ≡ text) × (from ≡ []) × (from ≡ to)
SpansBranch text (Pieces b) from to =
    (first : List ℕ) × (last : List ℕ) × SpansLeft text b.left from first × SpansPieces text b.pieces first last × SpansRight text b.right last to

-- a branch is found in a text: it spans some place of the text to another
pub record FoundIn (text : List ℕ) (b : IosBranch) : Type 0 where
  pub before : List ℕ
  pub from : List ℕ
  pub to : List ℕ
  pub place : text ≡ before ++ from
  pub spans : SpansBranch text b from to

-- some branch of a pattern is found in the text of a path
abbrev pub Found : List IosBranch → List ℕ → Type 0
Found bs path = SomeOf (FoundIn (path_text path)) bs
