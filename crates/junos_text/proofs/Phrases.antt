-- Words that are laid out on a line: they are words of the cut, and where they are placed they have the texts and quotes that
-- were written.
use Rattle.std.proofs.Common.{◌≡◌, refl, sym, ap, ◌∙◌, ℕ, ◌+◌, ◌≤◌, Bool, true, false, ◌&&◌, ◌||◌, not, List, [], ◌∷◌, ◌++◌, length, map, arith}
use Rattle.std.specs.Prelude.{codes}
use Rattle.std.specs.List.{AllByRecursion, list_all}
use Rattle.std.proofs.lemmas.Bool.{and_parts, and_from, or_right}
use Rattle.text_words.specs.Pieces.{Piece, placed, line_pieces, pieces_behind, word_at, word_size}
use Rattle.text_words.specs.Signs.{ends_word, is_closed, is_word, are_words}
use Rattle.text_words.specs.JunosWritten.{junos_signs, quoted_bytes}
use Rattle.text_words.specs.declared.statement.Word.{Word}
use Rattle.policy_text.specs.Phrases.{texts}
use Rattle.junos_tree.specs.Tree.{are_plain, are_plain_but_last}
use Rattle.junos_text.specs.Words.{values_words, quoted_last}
use Rattle.junos_text.proofs.Plain.{IsPlainWord}

-- words of a text
abbrev pub ArePlain : List (List ℕ) → Type 0
ArePlain ws = AllByRecursion IsPlainWord ws

-- ---- what may be written

-- pieces that are words, and before which a word may end
abbrev IsTail : List Piece → Type 0
IsTail xs = (are_words junos_signs xs ≡ true) × (ends_word junos_signs xs ≡ true)

word_before : (gap : ℕ) (w : List ℕ) (xs : List Piece) → IsPlainWord w → IsTail xs → are_words junos_signs (record { gap = gap; text = w; quoted = false } ∷ xs) ≡ true
unfolding are_words
word_before gap w xs h tail =
    let closed = is_closed junos_signs w false in
    and_from (is_word junos_signs w false) ((closed || ends_word junos_signs xs) && are_words junos_signs xs) h (and_from (closed || ends_word junos_signs xs) (are_words junos_signs xs) (or_right closed (ends_word junos_signs xs) tail.1) tail.0)

behind_before : (ws : List (List ℕ)) (xs : List Piece) → ArePlain ws → IsTail xs → IsTail (pieces_behind ws ++ xs)
behind_before [] xs h tail = tail
behind_before (w ∷ ws) xs h tail = (word_before 1 w (pieces_behind ws ++ xs) h.0 (behind_before ws xs h.1 tail), refl)

line_before : (w : List ℕ) (ws : List (List ℕ)) (xs : List Piece) → ArePlain (w ∷ ws) → IsTail xs → are_words junos_signs (line_pieces 0 (w ∷ ws) ++ xs) ≡ true
line_before w ws xs h tail = word_before 0 w (pieces_behind ws ++ xs) h.0 (behind_before ws xs h.1 tail)

no_tail : IsTail []
unfolding are_words
no_tail = (refl, refl)

line_alone : (w : List ℕ) (ws : List (List ℕ)) → ArePlain (w ∷ ws) → IsTail (pieces_behind ws)
line_alone w [] h = no_tail
line_alone w (v ∷ ws) h = (word_before 1 v (pieces_behind ws) h.1.0 (line_alone v ws h.1), refl)

-- words on a line
pub line_words : (w : List ℕ) (ws : List (List ℕ)) → ArePlain (w ∷ ws) → are_words junos_signs (line_pieces 0 (w ∷ ws)) ≡ true
line_words w ws h = word_before 0 w (pieces_behind ws) h.0 (line_alone w ws h)

quoted_tail : (text : List ℕ) → quoted_bytes text ≡ true → IsTail (record { gap = 1; text = text; quoted = true } ∷ [])
unfolding are_words
quoted_tail text h = (rw h refl, refl)

-- words on a line, and a last one in quotes
pub quoted_words : (w : List ℕ) (ws : List (List ℕ)) (text : List ℕ) → ArePlain (w ∷ ws) → quoted_bytes text ≡ true → are_words junos_signs (quoted_last (w ∷ ws) text) ≡ true
quoted_words w ws text h q = line_before w ws (record { gap = 1; text = text; quoted = true } ∷ []) h (quoted_tail text q)

-- ---- what is placed

texts_behind : (p : ℕ) (ws : List (List ℕ)) (xs : List Piece) (vs : List (List ℕ)) → ((q : ℕ) → texts (placed q xs) ≡ vs) → texts (placed p (pieces_behind ws ++ xs)) ≡ ws ++ vs
unfolding placed
texts_behind p [] xs vs h = h p
texts_behind p (w ∷ ws) xs vs h = ap (λ (us : List (List ℕ)). w ∷ us) (texts_behind (p + 1 + word_size w false) ws xs vs h)

behind_texts : (p : ℕ) (ws : List (List ℕ)) → texts (placed p (pieces_behind ws)) ≡ ws
unfolding placed
behind_texts p [] = refl
behind_texts p (w ∷ ws) = ap (λ (us : List (List ℕ)). w ∷ us) (behind_texts (p + 1 + word_size w false) ws)

-- the texts of words on a line
pub line_texts : (p : ℕ) (ws : List (List ℕ)) → texts (placed p (line_pieces 0 ws)) ≡ ws
unfolding placed
line_texts p [] = refl
line_texts p (w ∷ ws) = ap (λ (us : List (List ℕ)). w ∷ us) (behind_texts (p + 0 + word_size w false) ws)

pub quoted_texts : (p : ℕ) (w : List ℕ) (ws : List (List ℕ)) (text : List ℕ) → texts (placed p (quoted_last (w ∷ ws) text)) ≡ w ∷ (ws ++ (text ∷ []))
unfolding placed
quoted_texts p w ws text = ap (λ (us : List (List ℕ)). w ∷ us) (texts_behind (p + 0 + word_size w false) ws (record { gap = 1; text = text; quoted = true } ∷ []) (text ∷ []) (λ q. refl))

behind_plain : (p : ℕ) (ws : List (List ℕ)) → are_plain (placed p (pieces_behind ws)) ≡ true
unfolding placed
behind_plain p [] = refl
behind_plain p (w ∷ ws) = behind_plain (p + 1 + word_size w false) ws

-- no word of a line is quoted
pub line_plain : (p : ℕ) (ws : List (List ℕ)) → are_plain (placed p (line_pieces 0 ws)) ≡ true
unfolding placed
line_plain p [] = refl
line_plain p (w ∷ ws) = behind_plain (p + 0 + word_size w false) ws

but_last : (p : ℕ) (v : Word) (ws : List (List ℕ)) (text : List ℕ) → v.quoted ≡ false → are_plain_but_last (v ∷ placed p (pieces_behind ws ++ (record { gap = 1; text = text; quoted = true } ∷ []))) ≡ true
unfolding placed
but_last p v [] text h = rw h refl
but_last p v (w ∷ ws) text h = and_from (not v.quoted) (are_plain_but_last (word_at (p + 1) w false ∷ placed (p + 1 + word_size w false) (pieces_behind ws ++ (record { gap = 1; text = text; quoted = true } ∷ [])))) (rw h refl) (but_last (p + 1 + word_size w false) (word_at (p + 1) w false) ws text refl)

-- no word is quoted but the last one
pub quoted_plain : (p : ℕ) (w : List ℕ) (ws : List (List ℕ)) (text : List ℕ) → are_plain_but_last (placed p (quoted_last (w ∷ ws) text)) ≡ true
unfolding placed
quoted_plain p w ws text = but_last (p + 0 + word_size w false) (word_at (p + 0) w false) ws text refl

-- ---- values

brackets_plain : (ws : List (List ℕ)) → ArePlain ws → ArePlain (ws ++ (codes "]" ∷ []))
brackets_plain [] h = (refl, tt)
brackets_plain (w ∷ ws) h = (h.0, brackets_plain ws h.1)

-- values, one alone or several in brackets, are words
pub values_plain : (ws : List (List ℕ)) → ArePlain ws → ArePlain (values_words ws)
values_plain [] h = (refl, (refl, tt))
values_plain (w ∷ []) h = h
values_plain (w ∷ v ∷ ws) h = (refl, brackets_plain (w ∷ v ∷ ws) h)
