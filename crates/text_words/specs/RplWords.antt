-- The words of an RPL text, read forwards, a byte a step. Words are runs of bytes that are no blanks; a
-- parenthesis or a comma is a word of its own; `'` opens a quoted word up to the next `'` of its line,
-- and without one it is an ordinary byte. A line is dropped where its first byte that is no blank is
-- `!` or `#`.
use Rattle.std.specs.Prelude.{ℕ, ◌+◌, Bool, true, false, ◌&&◌, ◌||◌, not, ◌==◌, List, [], ◌∷◌, ◌++◌}
use Rattle.text_words.specs.Text.{is_blank, starts_with_byte}
use Rattle.text_words.specs.declared.statement.Word.{Word}
use Rattle.text_words.specs.declared.rpl_words.Begun.{Begun}
use Rattle.text_words.specs.declared.rpl_words.Standing.{Standing}
use Rattle.text_words.specs.declared.rpl_words.Standing.TheVariants.{Margin, Remark, Behind, Within, Quoted}
use Rattle.text_words.specs.declared.rpl_words.ByteSort.{ByteSort}
use Rattle.text_words.specs.declared.rpl_words.ByteSort.TheVariants.{LineEnd, Blank, Single, Quote, Ordinary}

-- what a text is made of: words, and the ends of its lines
pub data Lexeme : Type 0 where
  EndsLine : Lexeme
  IsWord : Word → Lexeme

-- a parenthesis or a comma
abbrev pub is_single : ℕ → Bool
is_single c = (c == 40) || (c == 41) || (c == 44)

-- a line that starts so is dropped
abbrev pub is_remark : ℕ → Bool
is_remark c = (c == 33) || (c == 35)

-- another quote follows in the line
unfoldable pub has_quote : List ℕ → Bool
has_quote [] = false
has_quote (c ∷ cs) = (c == 39) || (not (c == 10) && has_quote cs)

-- what a byte is before those behind it: a CR right before LF is no byte of the line
unfoldable pub sort_at : ℕ → List ℕ → ByteSort
sort_at c behind = elim (c == 10) [
  | true ↦ LineEnd
  | false ↦ elim (is_blank c || ((c == 13) && starts_with_byte 10 behind)) [
    | true ↦ Blank
    | false ↦ elim (is_single c) [
      | true ↦ Single
      | false ↦ elim ((c == 39) && has_quote behind) [ true ↦ Quote | false ↦ Ordinary ]
    ]
  ]
]

-- a word that began at a place and ends at another
abbrev pub word_to : Bool → Begun → ℕ → Word
word_to quoted b end = record { text = b.text; quoted = quoted; span = record { start = b.start; end = end } }

-- a parenthesis or a comma at a place
abbrev pub single_at : ℕ → ℕ → Word
single_at p c = record { text = c ∷ []; quoted = false; span = record { start = p; end = p + 1 } }

-- a word that has begun ends here
abbrev pub ended : Standing → ℕ → List Lexeme → List Lexeme
ended (Within b) p rest = IsWord (word_to false b p) ∷ rest
ended _ p rest = rest

-- where the bytes behind a blank stand
abbrev pub past_blank : Standing → Standing
past_blank Margin = Margin
past_blank _ = Behind

-- a word begins or goes on with this byte
abbrev pub with_byte : Standing → ℕ → ℕ → Standing
with_byte (Within b) p c = Within (record { start = b.start; text = b.text ++ c ∷ [] })
with_byte _ p c = Within (record { start = p; text = c ∷ [] })

-- where the bytes behind a byte of a dropped line stand
abbrev pub past_remark : ℕ → Standing
past_remark c = elim (c == 10) [ true ↦ Margin | false ↦ Remark ]

-- where the bytes behind a byte of no quoted word and no dropped line stand
abbrev pub past : Standing → ℕ → ℕ → ByteSort → Standing
past s p c LineEnd = Margin
past s p c Blank = past_blank s
past s p c Single = Behind
past s p c Quote = Quoted (record { start = p; text = [] })
past s p c Ordinary = with_byte s p c

-- what such a byte ends, and what it is
abbrev pub given : Standing → ℕ → ℕ → ByteSort → List Lexeme → List Lexeme
given s p c LineEnd rest = ended s p (EndsLine ∷ rest)
given s p c Blank rest = ended s p rest
given s p c Single rest = ended s p (IsWord (single_at p c) ∷ rest)
given s p c Quote rest = ended s p rest
given s p c Ordinary rest = rest

-- the words and line ends from a byte at place p on, which stands so
unfoldable pub lexemes : Standing → ℕ → List ℕ → List Lexeme
lexemes s p [] = ended s p (EndsLine ∷ [])
lexemes Remark p (c ∷ cs) = lexemes (past_remark c) (p + 1) cs
lexemes (Quoted b) p (c ∷ cs) = elim (c == 39) [
  | true ↦ IsWord (word_to true b (p + 1)) ∷ lexemes Behind (p + 1) cs
  | false ↦ lexemes (Quoted (record { start = b.start; text = b.text ++ c ∷ [] })) (p + 1) cs
]
lexemes Margin p (c ∷ cs) = elim (is_remark c) [
  | true ↦ lexemes Remark (p + 1) cs
  | false ↦ given Margin p c (sort_at c cs) (lexemes (past Margin p c (sort_at c cs)) (p + 1) cs)
]
lexemes Behind p (c ∷ cs) = given Behind p c (sort_at c cs) (lexemes (past Behind p c (sort_at c cs)) (p + 1) cs)
lexemes (Within b) p (c ∷ cs) = given (Within b) p c (sort_at c cs) (lexemes (past (Within b) p c (sort_at c cs)) (p + 1) cs)
