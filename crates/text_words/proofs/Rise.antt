-- The statements of a cut rise, and lie within the text.
use Rattle.std.proofs.Common.{◌≡◌, subst, ℕ, ◌+◌, ◌<◌, ◌≤◌, Bool, true, false, cond, List, [], ◌∷◌, ◌++◌, length, add-zero, arith, length-append}
use Rattle.std.specs.List.{filter}
use Rattle.std.specs.Prelude.{◌==◌}
use Rattle.text_words.specs.declared.statement.Word.{Word}
use Rattle.text_words.specs.declared.statement.Statement.{Statement}
use Rattle.text_words.specs.declared.line_cut.ByteSort.{ByteSort}
use Rattle.text_words.specs.declared.line_cut.ByteSort.TheVariants.{LineEnd, Dropped, Blank, Letter}
use Rattle.text_words.specs.declared.line_cut.LineBegun.{LineBegun}
use Rattle.text_words.specs.Pieces.{word_at}
use Rattle.text_words.specs.LineCut.{sort_at, with_word, words_of, line_from, behind_blank, behind_letter, end_of, line_statement, last_line, lines_from, line_cut}
use Rattle.text_words.specs.IosCut.{is_said, ios_cut}
use Rattle.text_words.specs.Rising.{StatementsRise}

-- ---- words

abbrev pub WordsRise : ℕ → ℕ → List Word → Type 0
WordsRise p end [] = p ≤ end
WordsRise p end (w ∷ ws) = (p ≤ w.span.start) × (w.span.start < w.span.end) × WordsRise w.span.end end ws

words_higher : (p q end : ℕ) (ws : List Word) → q ≤ end → WordsRise p q ws → WordsRise p end ws
words_higher p q end [] le h = omega arith
words_higher p q end (w ∷ ws) le h = (h.0, h.1, words_higher w.span.end q end ws le h.2)

one_more : (p q c end : ℕ) (cs : List ℕ) (ws : List Word) → q + length (c ∷ cs) ≤ end → WordsRise p q ws → WordsRise p end (ws ++ word_at q (c ∷ cs) false ∷ [])
one_more p q c end cs [] le h = (h, omega arith, le)
one_more p q c end cs (w ∷ ws) le h = (h.0, h.1, one_more w.span.end q c end cs ws le h.2)

with_last : (p q end : ℕ) (ws : List Word) (word : List ℕ) → q + length word ≤ end → WordsRise p q ws → WordsRise p end (with_word ws q word)
with_last p q end ws [] le h = words_higher p q end ws (omega arith) h
with_last p q end ws (c ∷ cs) le h = one_more p q c end cs ws le h

pub words_end : (p end : ℕ) (ws : List Word) → WordsRise p end ws → p ≤ end
words_end p end [] h = h
words_end p end (w ∷ ws) h = omega (arith, h.0, h.1, words_end w.span.end end ws h.2)

-- the last word ends within
pub end_within : (p end : ℕ) (ws : List Word) → WordsRise p end ws → (p ≤ end_of p ws) × (end_of p ws ≤ end)
end_within p end [] h = (omega arith, h)
end_within p end (w ∷ ws) h = let rest = end_within w.span.end end ws h.2 in (omega (arith, h.0, h.1, rest.0), rest.1)

-- ---- statements

statements_lower : (q p end : ℕ) (ss : List Statement) → q ≤ p → StatementsRise p end ss → StatementsRise q end ss
statements_lower q p end [] le h = omega arith
statements_lower q p end (s ∷ ss) le h = (omega (arith, h.0), h.1, h.2)

statement_by : (p middle end start : ℕ) (w : Word) (ws : List Word) (ss : List Statement) (b : Bool) → WordsRise p middle (w ∷ ws) → StatementsRise middle end ss → StatementsRise p end (cond b (line_statement start (w ∷ ws) ∷ ss) ss)
statement_by p middle end start w ws ss true h rest =
    let within = end_within w.span.end middle ws h.2 in
    (h.0, omega (arith, h.1, within.0), statements_lower (end_of w.span.end ws) middle end ss within.1 rest)
statement_by p middle end start w ws ss false h rest =
    let within = end_within w.span.end middle ws h.2 in
    statements_lower p middle end ss (omega (arith, h.0, h.1, within.0, within.1)) rest

statement_rises : (p middle end start : ℕ) (ws : List Word) (ss : List Statement) → WordsRise p middle ws → StatementsRise middle end ss → StatementsRise p end (cond (is_said ws) (line_statement start ws ∷ ss) ss)
statement_rises p middle end start [] ss h rest = statements_lower p middle end ss h rest
statement_rises p middle end start (w ∷ ws) ss h rest = statement_by p middle end start w ws ss (is_said (w ∷ ws)) h rest

-- ---- the cut

-- the words of a line rise from place p on, and its bytes so far end at q
record IsWithin (p q : ℕ) (l : LineBegun) : Type 0 where
  words : WordsRise p l.word_start l.words
  word : l.word_start + length l.word ≤ q

-- what the lines of the rest do
abbrev RestRises : ℕ → ℕ → List ℕ → Type 0
RestRises q end cs = (p : ℕ) (l : LineBegun) → IsWithin p q l → StatementsRise p end (filter (λ s. is_said s.words) (lines_from l q cs))

step_rises : (p q c end : ℕ) (cs : List ℕ) (l : LineBegun) (s : ByteSort) → IsWithin p q l → RestRises (q + 1) end cs → StatementsRise p end (filter (λ s. is_said s.words) (elim s [
  | LineEnd ↦ line_statement l.start (words_of l) ∷ lines_from (line_from (q + 1)) (q + 1) cs
  | Blank ↦ lines_from (behind_blank l (q + 1)) (q + 1) cs
  | Dropped ↦ lines_from l (q + 1) cs
  | Letter ↦ lines_from (behind_letter l c) (q + 1) cs
]))
step_rises p q c end cs l LineEnd h rest = statement_rises p q end l.start (words_of l) (filter (λ s. is_said s.words) (lines_from (line_from (q + 1)) (q + 1) cs)) (with_last p l.word_start q l.words l.word h.word h.words) (rest q (line_from (q + 1)) (record { words = omega arith; word = omega arith }))
step_rises p q c end cs l Blank h rest = rest p (behind_blank l (q + 1)) (record { words = with_last p l.word_start (q + 1) l.words l.word (omega (arith, h.word)) h.words; word = omega arith })
step_rises p q c end cs l Dropped h rest = rest p l (record { words = h.words; word = omega (arith, h.word) })
step_rises p q c end cs l Letter h rest = rest p (behind_letter l c) (record { words = h.words; word = omega (arith, h.word, length-append l.word (c ∷ [])) })

last_rises : (p q start : ℕ) (ws : List Word) (b : Bool) → WordsRise p q ws → StatementsRise p q (filter (λ s. is_said s.words) (elim b [ true ↦ [] | false ↦ line_statement start ws ∷ [] ]))
last_rises p q start ws true h = statement_rises p q q start [] [] (words_end p q ws h) (omega arith)
last_rises p q start ws false h = statement_rises p q q start ws [] h (omega arith)

lines_rise : (q end : ℕ) (text : List ℕ) → q + length text ≡ end → RestRises q end text
unfolding lines_from
lines_rise q end [] e p l h = subst (λ (n : ℕ). StatementsRise p n (filter (λ s. is_said s.words) (last_line l q))) e (rw (add-zero q) (last_rises p q l.start (words_of l) (q == l.start) (with_last p l.word_start q l.words l.word h.word h.words)))
lines_rise q end (c ∷ cs) e p l h = step_rises p q c end cs l (sort_at c cs) h (lines_rise (q + 1) end cs (omega (arith, e)))

-- the statements of an IOS text rise, and lie within it
pub cut_rises : (text : List ℕ) → StatementsRise 0 (length text) (ios_cut text)
unfolding ios_cut line_cut
cut_rises text = lines_rise 0 (length text) text (omega arith) 0 (line_from 0) (record { words = omega arith; word = omega arith })
