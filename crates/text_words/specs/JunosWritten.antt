-- What may be written as Junos, one statement a line with four spaces for each level: which words, which
-- lines, their text, and the statements that stand in it.
use Rattle.std.specs.Prelude.{ℕ, suc, zero, ◌+◌, ◌*◌, Bool, true, false, ◌&&◌, ◌||◌, not, ◌==◌, List, [], ◌∷◌, ◌++◌, length}
use Rattle.text_words.specs.declared.statement.Ender.TheVariants.{Semi, Open, Close}
use Rattle.text_words.specs.declared.statement.Statement.{Statement}
use Rattle.text_words.specs.Pieces.{Piece, spaces, pieces_text, placed}
use Rattle.text_words.specs.Signs.{Signs, are_words}
use Rattle.text_words.specs.JunosWords.{is_dropped, is_plain, sort_at}
use Rattle.text_words.specs.JunosCut.{statement_of}

-- each byte is one of a word
unfoldable pub plain_bytes : List ℕ → Bool
plain_bytes [] = true
plain_bytes (c ∷ cs) = is_plain (sort_at c cs) && plain_bytes cs

-- a word without quotes
abbrev pub is_plain_word : List ℕ → Bool
is_plain_word [] = false
is_plain_word (c ∷ cs) = plain_bytes (c ∷ cs)

-- a text that may stand in quotes: it holds no quote, and no CR right before an LF
unfoldable pub quoted_bytes : List ℕ → Bool
quoted_bytes [] = true
quoted_bytes (c ∷ cs) = not (c == 34 || is_dropped c cs) && quoted_bytes cs

-- the signs of Junos
abbrev pub junos_signs : Signs
junos_signs = record { quote = 34; is_mark = λ c. c == 91 || c == 93; is_plain = is_plain_word; in_quotes = quoted_bytes }

-- a line: words and `;`, words and `{`, or `}`
pub data JunosLine : Type 0 where
  Says : List Piece → JunosLine
  Opens : List Piece → JunosLine
  Closes : JunosLine

-- lines that may be written where so many blocks are open: each has words, and at the end no block is open
unfoldable pub may_be_written : ℕ → List JunosLine → Bool
may_be_written depth [] = depth == 0
may_be_written depth (Says words ∷ ls) = are_words junos_signs words && may_be_written depth ls
may_be_written depth (Opens words ∷ ls) = are_words junos_signs words && may_be_written (suc depth) ls
may_be_written zero (Closes ∷ ls) = false
may_be_written (suc depth) (Closes ∷ ls) = may_be_written depth ls

-- the text of the lines where so many blocks are open
unfoldable pub lines_text : ℕ → List JunosLine → List ℕ
lines_text depth [] = []
lines_text depth (Says words ∷ ls) = spaces (4 * depth) ++ (pieces_text 34 words ++ (59 ∷ 10 ∷ lines_text depth ls))
lines_text depth (Opens words ∷ ls) = spaces (4 * depth) ++ (pieces_text 34 words ++ (32 ∷ 123 ∷ 10 ∷ lines_text (suc depth) ls))
lines_text zero (Closes ∷ ls) = 125 ∷ 10 ∷ lines_text zero ls
lines_text (suc depth) (Closes ∷ ls) = spaces (4 * depth) ++ (125 ∷ 10 ∷ lines_text depth ls)

abbrev pub junos_text : List JunosLine → List ℕ
junos_text ls = lines_text 0 ls

-- the place behind the words of a line that starts at place p
abbrev pub words_end : ℕ → ℕ → List Piece → ℕ
words_end depth p words = p + 4 * depth + length (pieces_text 34 words)

-- the statements of the lines, the first of which starts at place p, where so many blocks are open
unfoldable pub junos_placed : ℕ → ℕ → List JunosLine → List Statement
junos_placed depth p [] = []
junos_placed depth p (Says words ∷ ls) =
    let q = words_end depth p words in
    statement_of (placed (p + 4 * depth) words) Semi depth q ∷ junos_placed depth (q + 2) ls
junos_placed depth p (Opens words ∷ ls) =
    let q = words_end depth p words in
    statement_of (placed (p + 4 * depth) words) Open depth (q + 1) ∷ junos_placed (suc depth) (q + 3) ls
junos_placed zero p (Closes ∷ ls) = statement_of [] Close 0 p ∷ junos_placed zero (p + 2) ls
junos_placed (suc depth) p (Closes ∷ ls) =
    let q = p + 4 * depth in
    statement_of [] Close (suc depth) q ∷ junos_placed depth (q + 2) ls
