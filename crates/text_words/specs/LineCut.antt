-- The cut of a text into lines: each line is a statement, and its words are the runs of bytes that are no
-- blanks. A CR right before an LF is dropped. The last LF ends a line and begins none. The text is read
-- forwards, a byte a step.
use Rattle.std.specs.Prelude.{ℕ, ◌+◌, true, false, ◌&&◌, ◌==◌, List, [], ◌∷◌, ◌++◌}
use Rattle.text_words.specs.Text.{is_blank, starts_with_byte}
use Rattle.text_words.specs.Pieces.{word_at}
use Rattle.text_words.specs.declared.statement.Span.{Span}
use Rattle.text_words.specs.declared.statement.Word.{Word}
use Rattle.text_words.specs.declared.statement.Ender.TheVariants.{Line as EndsLine}
use Rattle.text_words.specs.declared.statement.Statement.{Statement}
use Rattle.text_words.specs.declared.line_cut.ByteSort.{ByteSort}
use Rattle.text_words.specs.declared.line_cut.ByteSort.TheVariants.{LineEnd, Dropped, Blank, Letter}
use Rattle.text_words.specs.declared.line_cut.LineBegun.{LineBegun}

-- what a byte is in front of those behind it
abbrev pub sort_at : ℕ → List ℕ → ByteSort
sort_at c behind = elim (c == 10) [
  | true ↦ LineEnd
  | false ↦ elim (is_blank c) [ true ↦ Blank | false ↦ elim ((c == 13) && starts_with_byte 10 behind) [ true ↦ Dropped | false ↦ Letter ] ]
]

-- the words of a line with the word that has begun, if one has
abbrev pub with_word : List Word → ℕ → List ℕ → List Word
with_word words start [] = words
with_word words start (c ∷ cs) = words ++ word_at start (c ∷ cs) false ∷ []

-- the words of a line that ends here
abbrev pub words_of : LineBegun → List Word
words_of l = with_word l.words l.word_start l.word

-- a line that starts at place p
abbrev pub line_from : ℕ → LineBegun
line_from p = record { start = p; words = []; word_start = p; word = [] }

-- a line behind a blank, at place p
abbrev pub behind_blank : LineBegun → ℕ → LineBegun
behind_blank l p = record { start = l.start; words = words_of l; word_start = p; word = [] }

-- a line whose word has one more byte
abbrev pub behind_letter : LineBegun → ℕ → LineBegun
behind_letter l c = record { start = l.start; words = l.words; word_start = l.word_start; word = l.word ++ c ∷ [] }

-- the end of the last word
abbrev pub end_of : ℕ → List Word → ℕ
end_of p [] = p
end_of p (w ∷ ws) = end_of w.span.end ws

-- where words stand: from the first to the end of the last
abbrev pub span_of : ℕ → List Word → Span
span_of p [] = record { start = p; end = p }
span_of p (w ∷ ws) = record { start = w.span.start; end = end_of w.span.end ws }

-- how deep a line stands: 0 where it starts with a word, else 1
abbrev pub depth_of : ℕ → ℕ → ℕ
depth_of line word = elim (line == word) [ true ↦ 0 | false ↦ 1 ]

-- the statement of the words of a line that starts at place p
abbrev pub line_statement : ℕ → List Word → Statement
line_statement p words = record { words = words; ender = EndsLine; depth = depth_of p (span_of p words).start; span = span_of p words }

-- the line at the end of a text: none where no byte stands behind the last LF
abbrev pub last_line : LineBegun → ℕ → List Statement
last_line l p = elim (p == l.start) [ true ↦ [] | false ↦ line_statement l.start (words_of l) ∷ [] ]

-- the lines of a text from place p on, where a line has begun
unfoldable pub lines_from : LineBegun → ℕ → List ℕ → List Statement
lines_from l p [] = last_line l p
lines_from l p (c ∷ cs) = elim (sort_at c cs) [
  | LineEnd ↦ line_statement l.start (words_of l) ∷ lines_from (line_from (p + 1)) (p + 1) cs
  | Blank ↦ lines_from (behind_blank l (p + 1)) (p + 1) cs
  | Dropped ↦ lines_from l (p + 1) cs
  | Letter ↦ lines_from (behind_letter l c) (p + 1) cs
]

-- the lines of a text
unfoldable pub line_cut : List ℕ → List Statement
line_cut text = lines_from (line_from 0) 0 text
