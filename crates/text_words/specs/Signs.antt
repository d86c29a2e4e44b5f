-- The signs of a cut: which bytes make words, and when written pieces are words of it.
use Rattle.std.specs.Prelude.{ℕ, ltb, Bool, true, false, ◌&&◌, ◌||◌, List, [], ◌∷◌}
use Rattle.text_words.specs.Pieces.{Piece}

-- what makes a word: the quote byte, the bytes that are words of their own, the texts that are plain
-- words, and those that may stand in quotes (none where the cut knows no quotes)
pub record Signs : Type 0 where
  pub quote : ℕ
  pub is_mark : ℕ → Bool
  pub is_plain : List ℕ → Bool
  pub in_quotes : List ℕ → Bool

-- a text of one byte that is a word of its own
abbrev pub is_mark_text : Signs → List ℕ → Bool
is_mark_text s [] = false
is_mark_text s (c ∷ []) = s.is_mark c
is_mark_text s (c ∷ d ∷ cs) = false

-- any byte may follow the word: it is quoted, or a mark
abbrev pub is_closed : Signs → List ℕ → Bool → Bool
is_closed s text true = true
is_closed s text false = is_mark_text s text

-- a word of the cut
abbrev pub is_word : Signs → List ℕ → Bool → Bool
is_word s text true = s.in_quotes text
is_word s text false = is_mark_text s text || s.is_plain text

-- a plain word ends where these pieces follow: there are none, a space comes first, or a quoted word or a mark
abbrev pub ends_word : Signs → List Piece → Bool
ends_word s [] = true
ends_word s (x ∷ xs) = ltb 0 x.gap || is_closed s x.text x.quoted

-- the pieces are words of the cut, and no two plain words run into one another
unfoldable pub are_words : Signs → List Piece → Bool
are_words s [] = true
are_words s (x ∷ xs) = is_word s x.text x.quoted && ((is_closed s x.text x.quoted || ends_word s xs) && are_words s xs)
