-- Words as they are written, with blanks in front and in quotes or not: their text, and where the words
-- stand in it.
use Rattle.std.specs.Prelude.{ℕ, suc, zero, ◌+◌, Bool, true, false, List, [], ◌∷◌, ◌++◌, length, map}
use Rattle.text_words.specs.declared.statement.Word.{Word}

-- a word with so many spaces in front
pub record Piece : Type 0 where
  pub gap : ℕ
  pub text : List ℕ
  pub quoted : Bool

-- so many spaces
abbrev pub spaces : ℕ → List ℕ
spaces zero = []
spaces (suc n) = 32 ∷ spaces n

-- the bytes of a word in front of what follows it
abbrev pub word_then : ℕ → List ℕ → Bool → List ℕ → List ℕ
word_then quote text true rest = quote ∷ (text ++ (quote ∷ rest))
word_then quote text false rest = text ++ rest

-- the text of the pieces, with this byte for a quote
unfoldable pub pieces_text : ℕ → List Piece → List ℕ
pieces_text quote [] = []
pieces_text quote (x ∷ xs) = spaces x.gap ++ word_then quote x.text x.quoted (pieces_text quote xs)

-- how many bytes a word has, with its quotes
abbrev pub word_size : List ℕ → Bool → ℕ
word_size text true = length text + 2
word_size text false = length text

-- a word that starts at place p
abbrev pub word_at : ℕ → List ℕ → Bool → Word
word_at p text quoted = record { text = text; quoted = quoted; span = record { start = p; end = p + word_size text quoted } }

-- the words of the pieces, whose text starts at place p
unfoldable pub placed : ℕ → List Piece → List Word
placed p [] = []
placed p (x ∷ xs) = word_at (p + x.gap) x.text x.quoted ∷ placed (p + x.gap + word_size x.text x.quoted) xs

-- the texts of words
abbrev pub texts : List Word → List (List ℕ)
texts ws = map (λ w. w.text) ws

-- the text of words, each behind one space
abbrev pub text_behind : List (List ℕ) → List ℕ
text_behind [] = []
text_behind (w ∷ ws) = 32 ∷ (w ++ text_behind ws)

-- the text of words, one space between each two
unfoldable pub words_text : List (List ℕ) → List ℕ
words_text [] = []
words_text (w ∷ ws) = w ++ text_behind ws

-- words behind a word, each behind one space
abbrev pub pieces_behind : List (List ℕ) → List Piece
pieces_behind [] = []
pieces_behind (w ∷ ws) = record { gap = 1; text = w; quoted = false } ∷ pieces_behind ws

-- the words of a line, the first behind so many spaces and each other behind one
abbrev pub line_pieces : ℕ → List (List ℕ) → List Piece
line_pieces n [] = []
line_pieces n (w ∷ ws) = record { gap = n; text = w; quoted = false } ∷ pieces_behind ws
