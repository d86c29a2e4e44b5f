-- What may be written as the lines of a text, the text, and the statements that it has.
use Rattle.std.specs.Prelude.{ℕ, ◌+◌, Bool, false, not, ◌&&◌, ◌||◌, ◌==◌, List, [], ◌∷◌, ◌++◌, length, map}
use Rattle.std.specs.List.{list_all}
use Rattle.text_words.specs.Text.{is_blank, starts_with_byte}
use Rattle.text_words.specs.Pieces.{Piece, pieces_text, placed, texts, words_text}
use Rattle.text_words.specs.Signs.{Signs, are_words}
use Rattle.text_words.specs.LineCut.{line_statement}
use Rattle.text_words.specs.declared.statement.Statement.{Statement}

-- a byte that is no blank and ends no line
abbrev pub is_letter : ℕ → Bool
is_letter c = not ((c == 10) || (is_blank c || (c == 13)))

-- a word: one letter or more
abbrev pub is_plain : List ℕ → Bool
is_plain [] = false
is_plain (c ∷ cs) = is_letter c && list_all is_letter cs

-- the signs of a line: words are plain
abbrev pub line_signs : Signs
line_signs = record { quote = 0; is_mark = λ c. false; is_plain = is_plain; in_quotes = λ text. false }

-- the text of lines, with an LF behind each
unfoldable pub lines_text : List (List Piece) → List ℕ
lines_text [] = []
lines_text (l ∷ ls) = pieces_text 0 l ++ (10 ∷ lines_text ls)

-- the text of a line of words, one space between each two, with its LF
abbrev pub line_text : List (List ℕ) → List ℕ
line_text ws = words_text ws ++ (10 ∷ [])

-- the text of lines of words
unfoldable pub text_of_lines : List (List (List ℕ)) → List ℕ
text_of_lines [] = []
text_of_lines (l ∷ ls) = line_text l ++ text_of_lines ls

-- the words of lines
abbrev pub words_of_lines : List Statement → List (List (List ℕ))
words_of_lines ls = map (λ l. texts l.words) ls

-- the statements of the lines of a text that starts at place p
unfoldable pub lines_placed : ℕ → List (List Piece) → List Statement
lines_placed p [] = []
lines_placed p (l ∷ ls) = line_statement p (placed p l) ∷ lines_placed (p + length (pieces_text 0 l) + 1) ls

-- a line that IOS takes for a statement: it has a word, and does not start with `!`
abbrev pub is_no_remark : List Piece → Bool
is_no_remark [] = false
is_no_remark (x ∷ xs) = not (starts_with_byte 33 x.text)

-- a line that may be written in an IOS text
abbrev pub is_line : List Piece → Bool
is_line l = are_words line_signs l && is_no_remark l
