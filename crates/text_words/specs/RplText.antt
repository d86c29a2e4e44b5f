-- RPL texts that are written, a line a statement: what may be written, its text, and its statements.
use Rattle.std.specs.Prelude.{◌≡◌, ℕ, ◌+◌, Bool, true, false, ◌&&◌, ◌||◌, not, ◌==◌, List, [], ◌∷◌, ◌++◌, length, codes}
use Rattle.std.specs.List.{list_any, list_all}
use Rattle.text_words.specs.Text.{starts_with_byte}
use Rattle.text_words.specs.Pieces.{Piece, pieces_text, placed, word_at}
use Rattle.text_words.specs.Signs.{Signs, are_words}
use Rattle.text_words.specs.RplWords.{is_single}
use Rattle.text_words.specs.RplCut.{is_word, opening, said, in_condition, starts_with, ends_with}
use Rattle.text_words.specs.declared.statement.Word.{Word}
use Rattle.text_words.specs.declared.statement.Ender.{Ender}
use Rattle.text_words.specs.declared.statement.Ender.TheVariants.{Line, Comma, Plain}
use Rattle.text_words.specs.declared.statement.Statement.{Statement}
use Rattle.text_words.specs.declared.rpl_blocks.BlockKind.{BlockKind}
use Rattle.text_words.specs.declared.rpl_blocks.BlockKind.TheVariants.{PrefixSet, CommunitySet, PathSet, Policy}

-- the bytes that stand in no plain word: blanks, marks, the quote and those of line ends; all others do
abbrev pub breaks : List ℕ
breaks = 32 ∷ 9 ∷ 40 ∷ 41 ∷ 44 ∷ 39 ∷ 10 ∷ 13 ∷ []

abbrev pub is_letter : ℕ → Bool
is_letter c = not (list_any (λ b. c == b) breaks)

-- a word that may stand without quotes
abbrev pub is_plain : List ℕ → Bool
is_plain [] = false
is_plain (c ∷ cs) = list_all is_letter (c ∷ cs)

-- a byte that may stand in quotes
abbrev pub is_quotable : ℕ → Bool
is_quotable c = not ((c == 39) || (c == 10))

-- the signs of an RPL text
abbrev pub rpl_signs : Signs
rpl_signs = record { quote = 39; is_mark = is_single; is_plain = is_plain; in_quotes = list_all is_quotable }

-- a line that is written: `!`; the first line of a block, with its words behind the keyword; an element of
-- a set, with a comma behind it or not; a statement of a policy; the end of a set or of a policy
pub data RplLine : Type 0 where
  Remark : RplLine
  Header : BlockKind → List Piece → RplLine
  Element : Bool → List Piece → RplLine
  Step : List Piece → RplLine
  EndSet : RplLine
  EndPolicy : RplLine

-- a word in front of a line, or right behind another
abbrev pub bare : List ℕ → Piece
bare text = record { gap = 0; text = text; quoted = false }

-- what stands behind an element, a comma or nothing
abbrev pub mark_behind : Bool → List Piece
mark_behind true = bare (codes ",") ∷ []
mark_behind false = []

-- the words of a line
abbrev pub line_words : RplLine → List Piece
line_words Remark = []
line_words (Header kind xs) = bare (opening kind) ∷ xs
line_words (Element comma xs) = xs ++ mark_behind comma
line_words (Step xs) = xs
line_words EndSet = bare (codes "end-set") ∷ []
line_words EndPolicy = bare (codes "end-policy") ∷ []

-- the bytes of a line
abbrev pub line_bytes : RplLine → List ℕ
line_bytes Remark = codes "!"
line_bytes l = pieces_text 39 (line_words l)

-- the text of the lines
unfoldable pub rpl_text : List RplLine → List ℕ
rpl_text [] = []
rpl_text (l ∷ ls) = line_bytes l ++ (10 ∷ rpl_text ls)

-- the ender of an element
abbrev pub ender_of : Bool → Ender
ender_of true = Comma
ender_of false = Plain

-- the statement of a line that starts at place p
abbrev pub line_said : ℕ → RplLine → List Statement
line_said p Remark = []
line_said p (Header kind xs) = said Line 0 (placed p (bare (opening kind) ∷ xs))
line_said p (Element comma xs) = said (ender_of comma) 1 (placed p xs)
line_said p (Step xs) = said Plain 1 (placed p xs)
line_said p EndSet = said Plain 0 (placed p (bare (codes "end-set") ∷ []))
line_said p EndPolicy = said Plain 0 (placed p (bare (codes "end-policy") ∷ []))

-- the statements of the lines, whose text starts at place p
unfoldable pub rpl_placed : ℕ → List RplLine → List Statement
rpl_placed p [] = []
rpl_placed p (l ∷ ls) = line_said p l ++ rpl_placed (p + length (line_bytes l) + 1) ls

-- the word of a piece, wherever it stands
abbrev pub as_word : Piece → Word
as_word x = word_at 0 x.text x.quoted

-- the line is not dropped
abbrev pub is_kept : List Piece → Bool
is_kept [] = false
is_kept (x ∷ xs) = x.quoted || not (starts_with_byte 33 x.text || starts_with_byte 35 x.text)

-- a word of an element
abbrev pub is_inner : Piece → Bool
is_inner x = not (is_word (codes "end-set") (as_word x)) && not (is_word (codes ",") (as_word x))

-- no word behind this one begins another statement, none but the last ends this one, and the last leaves
-- no condition open
abbrev pub goes_to_end : Bool → Piece → List Piece → Bool
goes_to_end condition x [] = not (in_condition condition (as_word x))
goes_to_end condition x (y ∷ ys) = not (ends_with condition (as_word x)) && (not (is_word (codes "end-policy") (as_word y)) && (not (starts_with (in_condition condition (as_word x)) (as_word y)) && goes_to_end (in_condition condition (as_word x)) y ys))

-- the words are one statement of a policy
abbrev pub is_step : List Piece → Bool
is_step [] = false
is_step (x ∷ xs) = not (is_word (codes "end-policy") (as_word x)) && (starts_with false (as_word x) && goes_to_end false x xs)

-- the words of a line are words, and the line is what it is to be
abbrev pub is_line : RplLine → Bool
is_line (Element comma xs) = are_words rpl_signs (line_words (Element comma xs)) && (is_kept xs && list_all is_inner xs)
is_line (Step xs) = are_words rpl_signs xs && (is_kept xs && is_step xs)
is_line l = are_words rpl_signs (line_words l)

-- where a line stands: outside blocks; in a set before its first element, behind a comma, or behind an
-- element without one; in a policy
pub data Where : Type 0 where
  Outside : Where
  InSet : Where
  BehindComma : Where
  BehindElement : Where
  InPolicy : Where

-- where the lines behind a header stand
abbrev pub within : BlockKind → Where
within PrefixSet = InSet
within CommunitySet = InSet
within PathSet = InSet
within Policy = InPolicy

-- where the lines behind an element stand
abbrev pub behind : Bool → Where
behind true = BehindComma
behind false = BehindElement

-- lines that may be written, the first of which stands there
unfoldable pub MayBeWritten : Where → List RplLine → Type 0
MayBeWritten Outside [] = Unit {0}
MayBeWritten w (Remark ∷ ls) = MayBeWritten w ls
MayBeWritten Outside (Header kind xs ∷ ls) = (is_line (Header kind xs) ≡ true) × MayBeWritten (within kind) ls
MayBeWritten InSet (Element comma xs ∷ ls) = (is_line (Element comma xs) ≡ true) × MayBeWritten (behind comma) ls
MayBeWritten BehindComma (Element comma xs ∷ ls) = (is_line (Element comma xs) ≡ true) × MayBeWritten (behind comma) ls
MayBeWritten InSet (EndSet ∷ ls) = MayBeWritten Outside ls
MayBeWritten BehindElement (EndSet ∷ ls) = MayBeWritten Outside ls
MayBeWritten InPolicy (Step xs ∷ ls) = (is_line (Step xs) ≡ true) × MayBeWritten InPolicy ls
MayBeWritten InPolicy (EndPolicy ∷ ls) = MayBeWritten Outside ls
MayBeWritten _ _ = ⊥
