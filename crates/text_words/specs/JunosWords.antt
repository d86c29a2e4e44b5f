-- The words of a Junos text, and what ends its statements, by one byte a step from the left. Blanks and
-- line ends separate words, and so do comments: `/*` to the next `*/`, and `#` to the end of the line. A
-- quoted word goes from `"` to the next `"`, whatever stands between. `[` and `]` are words of their own.
use Rattle.std.specs.Prelude.{ℕ, ◌+◌, Bool, true, false, ◌&&◌, ◌||◌, ◌==◌, List, [], ◌∷◌, ◌++◌}
use Rattle.text_words.specs.Text.{is_blank, starts_with_byte}
use Rattle.text_words.specs.declared.fault.BrokenKind.{BrokenKind}
use Rattle.text_words.specs.declared.fault.BrokenKind.TheVariants.{OpenQuote, OpenComment}
use Rattle.text_words.specs.declared.statement.Span.{Span}
use Rattle.text_words.specs.declared.statement.Word.{Word}
use Rattle.text_words.specs.declared.junos_bytes.Mark.{Mark}
use Rattle.text_words.specs.declared.junos_bytes.Mark.TheVariants.{Semi, Open, Close}
use Rattle.text_words.specs.declared.junos_bytes.Sort.{Sort}
use Rattle.text_words.specs.declared.junos_bytes.Sort.TheVariants.{Gap, Quote, LineComment, Comment, Bracket, Ends, Plain}
use Rattle.text_words.specs.declared.junos_words.Begun.{Begun}
use Rattle.text_words.specs.declared.junos_words.Within.{Within}
use Rattle.text_words.specs.declared.junos_words.Within.TheVariants.{Outside, InWord, InQuote, InLine, Opening, InComment, AtStar}

-- a CR right before an LF
abbrev pub is_dropped : ℕ → List ℕ → Bool
is_dropped c behind = (c == 13) && starts_with_byte 10 behind

-- a byte between words: a blank, an LF, or a CR right before one
abbrev pub is_gap : ℕ → List ℕ → Bool
is_gap c behind = is_blank c || (c == 10) || is_dropped c behind

-- a slash opens a comment where `*` is right behind it
abbrev pub slash_sort : List ℕ → Sort
slash_sort behind = elim (starts_with_byte 42 behind) [ true ↦ Comment | false ↦ Plain ]

-- the bytes of a sort of their own, where a slash is of this sort
abbrev pub sorts : Sort → List (ℕ × Sort)
sorts slash = (34, Quote) ∷ (35, LineComment) ∷ (91, Bracket) ∷ (93, Bracket) ∷ (59, Ends Semi) ∷ (123, Ends Open) ∷ (125, Ends Close) ∷ (47, slash) ∷ []

-- the sort of a byte by these rows; any other byte is one of a word
abbrev pub sort_in : List (ℕ × Sort) → ℕ → Sort
sort_in [] c = Plain
sort_in (row ∷ rows) c = elim (c == row.0) [ true ↦ row.1 | false ↦ sort_in rows c ]

-- what a byte is outside quotes and comments, before the bytes behind it
unfoldable pub sort_at : ℕ → List ℕ → Sort
sort_at c behind = elim (is_gap c behind) [ true ↦ Gap | false ↦ sort_in (sorts (slash_sort behind)) c ]

-- a word, what ends a statement with its place, or a quote or comment that the text's end leaves open
pub data Token : Type 0 where
  IsWord : Word → Token
  Ender : Mark → ℕ → Token
  Unclosed : BrokenKind → Span → Token

-- the bytes from place p up to q
abbrev pub span : ℕ → ℕ → Span
span p q = record { start = p; end = q }

-- a word that is begun at a place with these bytes
abbrev pub begun : ℕ → List ℕ → Begun
begun p bytes = record { first = span p (p + 1); text = bytes }

-- one byte more of a word that is begun
abbrev pub with_byte : Begun → ℕ → Begun
with_byte b c = record { first = b.first; text = b.text ++ c ∷ [] }

-- a word that ends before place p
abbrev pub word_up_to : ℕ → Bool → Begun → Word
word_up_to p quoted b = record { text = b.text; quoted = quoted; span = span b.first.start p }

-- what one byte gives: the tokens that are whole with it, and where the next byte stands
pub record Step : Type 0 where
  pub tokens : List Token
  pub within : Within

-- no token, and where the next byte stands
abbrev pub goes_to : Within → Step
goes_to within = record { tokens = []; within = within }

-- a token, and the next byte stands outside
abbrev pub gives : Token → Step
gives token = record { tokens = token ∷ []; within = Outside }

-- a byte of this sort at place p, where no word is begun
abbrev pub outside_step : Sort → ℕ → ℕ → Step
outside_step Gap p c = goes_to Outside
outside_step Quote p c = goes_to (InQuote (begun p []))
outside_step LineComment p c = goes_to InLine
outside_step Comment p c = goes_to (Opening p)
outside_step Bracket p c = gives (IsWord (word_up_to (p + 1) false (begun p (c ∷ []))))
outside_step (Ends mark) p c = gives (Ender mark p)
outside_step Plain p c = goes_to (InWord (begun p (c ∷ [])))

-- a step with a token in front of its own
abbrev pub behind_token : Token → Step → Step
behind_token token s = record { tokens = token ∷ s.tokens; within = s.within }

-- a byte of a word
abbrev pub is_plain : Sort → Bool
is_plain Plain = true
is_plain _ = false

-- a byte of this sort behind a word's bytes: the word goes on at a byte of a word, and ends at any other
abbrev pub word_step : Begun → Sort → ℕ → ℕ → Step
word_step b sort p c = elim (is_plain sort) [
  | true ↦ goes_to (InWord (with_byte b c))
  | false ↦ behind_token (IsWord (word_up_to p false b)) (outside_step sort p c)
]

-- a byte in a quoted word, which is a CR right before an LF or not
abbrev pub quote_step : Begun → ℕ → ℕ → Bool → Step
quote_step b p c dropped = elim (c == 34) [
  | true ↦ gives (IsWord (word_up_to (p + 1) true b))
  | false ↦ elim dropped [ true ↦ goes_to (InQuote b) | false ↦ goes_to (InQuote (with_byte b c)) ]
]

-- where a byte of a comment leads that these two bytes opened, behind a star or not
abbrev pub comment_step : Span → ℕ → Within
comment_step opener c = elim (c == 42) [ true ↦ AtStar opener | false ↦ InComment opener ]

abbrev pub star_step : Span → ℕ → Within
star_step opener c = elim (c == 47) [ true ↦ Outside | false ↦ comment_step opener c ]

-- a comment to the end of the line ends with the LF
abbrev pub line_step : ℕ → Within
line_step c = elim (c == 10) [ true ↦ Outside | false ↦ InLine ]

-- the byte at place p, before the bytes behind it
unfoldable pub step_at : Within → ℕ → ℕ → List ℕ → Step
step_at Outside p c behind = outside_step (sort_at c behind) p c
step_at (InWord b) p c behind = word_step b (sort_at c behind) p c
step_at (InQuote b) p c behind = quote_step b p c (is_dropped c behind)
step_at InLine p c behind = goes_to (line_step c)
step_at (Opening start) p c behind = goes_to (InComment (span start (p + 1)))
step_at (InComment opener) p c behind = goes_to (comment_step opener c)
step_at (AtStar opener) p c behind = goes_to (star_step opener c)

-- what the text's end at place p gives
abbrev pub end_tokens : Within → ℕ → List Token
end_tokens Outside p = []
end_tokens (InWord b) p = IsWord (word_up_to p false b) ∷ []
end_tokens (InQuote b) p = Unclosed OpenQuote b.first ∷ []
end_tokens InLine p = []
end_tokens (Opening start) p = Unclosed OpenComment (span start p) ∷ []
end_tokens (InComment opener) p = Unclosed OpenComment opener ∷ []
end_tokens (AtStar opener) p = Unclosed OpenComment opener ∷ []

-- the tokens of a text from place p on
unfoldable pub tokens_at : Within → ℕ → List ℕ → List Token
tokens_at within p [] = end_tokens within p
tokens_at within p (c ∷ cs) = (step_at within p c cs).tokens ++ tokens_at (step_at within p c cs).within (p + 1) cs
