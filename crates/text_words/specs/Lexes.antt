-- What a reader of words owes so that it reads written pieces as their words.
use Rattle.std.specs.Prelude.{◌≡◌, ℕ, ◌+◌, true, false, List, [], ◌∷◌, ◌++◌, length}
use Rattle.text_words.specs.declared.statement.Word.{Word}
use Rattle.text_words.specs.Pieces.{word_at}
use Rattle.text_words.specs.Signs.{Signs}

-- a reader of a text from a place on, between words: it passes over a space and puts a word in front of
-- what it reads behind the word; what stops a plain word are a space, a mark and a quoted word
pub record Lexes {R : Type 0} (s : Signs) (read : ℕ → List ℕ → R) (onto : Word → R → R) (Stops : List ℕ → Type 0) : Type 0 where
  pub blank : (p : ℕ) (rest : List ℕ) → read p (32 ∷ rest) ≡ read (p + 1) rest
  pub plain : (p : ℕ) (text rest : List ℕ) → s.is_plain text ≡ true → Stops rest → read p (text ++ rest) ≡ onto (word_at p text false) (read (p + length text) rest)
  pub mark : (p c : ℕ) (rest : List ℕ) → s.is_mark c ≡ true → read p (c ∷ rest) ≡ onto (word_at p (c ∷ []) false) (read (p + 1) rest)
  pub quoted : (p : ℕ) (text rest : List ℕ) → s.in_quotes text ≡ true → read p (s.quote ∷ (text ++ (s.quote ∷ rest))) ≡ onto (word_at p text true) (read (p + (length text + 2)) rest)
  pub at_blank : (rest : List ℕ) → Stops (32 ∷ rest)
  pub at_mark : (c : ℕ) (rest : List ℕ) → s.is_mark c ≡ true → Stops (c ∷ rest)
  pub at_quote : (text rest : List ℕ) → s.in_quotes text ≡ true → Stops (s.quote ∷ (text ++ (s.quote ∷ rest)))

-- the words in front of what is read behind them
abbrev pub front : {R : Type 0} → (Word → R → R) → List Word → R → R
front onto [] r = r
front onto (w ∷ ws) r = onto w (front onto ws r)
