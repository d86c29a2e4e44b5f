-- The statements of a Junos cut rise, and lie within the text.
use Rattle.std.proofs.Common.{◌≡◌, refl, subst, ℕ, ◌+◌, ◌<◌, ◌≤◌, Bool, true, false, List, [], ◌∷◌, ◌++◌, length, Ok, Err, add-zero, arith}
use Rattle.std.specs.Prelude.{◌==◌, IfSome}
use Rattle.text_words.specs.declared.statement.Span.{Span}
use Rattle.text_words.specs.declared.statement.Word.{Word}
use Rattle.text_words.specs.declared.statement.Statement.{Statement}
use Rattle.text_words.specs.declared.junos_bytes.Mark.TheVariants.{Semi, Open, Close}
use Rattle.text_words.specs.declared.junos_bytes.Sort.{Sort}
use Rattle.text_words.specs.declared.junos_bytes.Sort.TheVariants.{Gap, Quote, LineComment, Comment, Bracket, Ends, Plain}
use Rattle.text_words.specs.declared.junos_words.Begun.{Begun}
use Rattle.text_words.specs.declared.junos_words.Within.{Within}
use Rattle.text_words.specs.declared.junos_words.Within.TheVariants.{Outside, InWord, InQuote, InLine, Opening, InComment, AtStar}
use Rattle.text_words.specs.LineCut.{end_of}
use Rattle.text_words.specs.Rising.{StatementsRise}
use Rattle.text_words.specs.JunosWords.{Token, IsWord, Ender, Unclosed, Step, is_dropped, is_plain, sort_at, with_byte, outside_step, word_step, quote_step, comment_step, star_step, line_step, step_at, end_tokens, tokens_at}
use Rattle.text_words.specs.JunosCut.{Outcome, in_front, span_of_words, at_text_end, grouped, cut_or_fault, cut_in, junos_cut}

-- ---- tokens

-- the tokens rise from place p on, and end at `end` or before
abbrev TokensRise : ℕ → ℕ → List Token → Type 0
TokensRise p end [] = p ≤ end
TokensRise p end (IsWord w ∷ ts) = (p ≤ w.span.start) × (w.span.start < w.span.end) × TokensRise w.span.end end ts
TokensRise p end (Ender mark q ∷ ts) = (p ≤ q) × TokensRise (q + 1) end ts
TokensRise p end (Unclosed kind place ∷ ts) = Unit {0}

-- what is begun here starts from place p on, and before q
abbrev IsBegun : ℕ → ℕ → Within → Type 0
IsBegun p q Outside = p ≤ q
IsBegun p q (InWord b) = (p ≤ b.first.start) × (b.first.start < q)
IsBegun p q (InQuote b) = (p ≤ b.first.start) × (b.first.start < q)
IsBegun p q InLine = p ≤ q
IsBegun p q (Opening start) = p ≤ q
IsBegun p q (InComment opener) = p ≤ q
IsBegun p q (AtStar opener) = p ≤ q

-- what the tokens of the rest do
abbrev RestRises : ℕ → ℕ → List ℕ → Type 0
RestRises q end text = (p : ℕ) (within : Within) → IsBegun p q within → TokensRise p end (tokens_at within q text)

-- a step with what stands behind it
abbrev step_tokens : Step → ℕ → List ℕ → List Token
step_tokens s q text = s.tokens ++ tokens_at s.within q text

outside_rises : (p q c end : ℕ) (text : List ℕ) (s : Sort) → p ≤ q → RestRises (q + 1) end text → TokensRise p end (step_tokens (outside_step s q c) (q + 1) text)
outside_rises p q c end text Gap h rest = rest p Outside (omega arith)
outside_rises p q c end text Quote h rest = rest p _ (h, omega arith)
outside_rises p q c end text LineComment h rest = rest p InLine (omega arith)
outside_rises p q c end text Comment h rest = rest p (Opening q) (omega arith)
outside_rises p q c end text Bracket h rest = (h, omega arith, rest (q + 1) Outside (omega arith))
outside_rises p q c end text (Ends mark) h rest = (h, rest (q + 1) Outside (omega arith))
outside_rises p q c end text Plain h rest = rest p _ (h, omega arith)

word_rises : (p q c end : ℕ) (text : List ℕ) (b : Begun) (s : Sort) (plain : Bool) → is_plain s ≡ plain → (p ≤ b.first.start) × (b.first.start < q) → RestRises (q + 1) end text → TokensRise p end (step_tokens (word_step b s q c) (q + 1) text)
word_rises p q c end text b s true e h rest = rw (e, word_step) (rest p (InWord (with_byte b c)) (h.0, omega (arith, h.1)))
word_rises p q c end text b s false e h rest = rw (e, word_step) (h.0, h.1, outside_rises q q c end text s (omega arith) rest)

quote_rises : (p q c end : ℕ) (text : List ℕ) (b : Begun) (dropped closes : Bool) → (c == 34) ≡ closes → (p ≤ b.first.start) × (b.first.start < q) → RestRises (q + 1) end text → TokensRise p end (step_tokens (quote_step b q c dropped) (q + 1) text)
quote_rises p q c end text b dropped true e h rest = rw (e, quote_step) (h.0, omega (arith, h.1), rest (q + 1) Outside (omega arith))
quote_rises p q c end text b true false e h rest = rw (e, quote_step) (rest p (InQuote b) (h.0, omega (arith, h.1)))
quote_rises p q c end text b false false e h rest = rw (e, quote_step) (rest p (InQuote (with_byte b c)) (h.0, omega (arith, h.1)))

comment_begun : (p q c : ℕ) (opener : Span) (star : Bool) → (c == 42) ≡ star → p ≤ q → IsBegun p q (comment_step opener c)
comment_begun p q c opener true e h = rw (e, comment_step) h
comment_begun p q c opener false e h = rw (e, comment_step) h

star_begun : (p q c : ℕ) (opener : Span) (slash : Bool) → (c == 47) ≡ slash → p ≤ q → IsBegun p q (star_step opener c)
star_begun p q c opener true e h = rw (e, star_step) h
star_begun p q c opener false e h = rw (e, star_step) (comment_begun p q c opener (c == 42) refl h)

line_begun : (p q c : ℕ) (ends : Bool) → (c == 10) ≡ ends → p ≤ q → IsBegun p q (line_step c)
line_begun p q c true e h = rw (e, line_step) h
line_begun p q c false e h = rw (e, line_step) h

step_rises : (p q c end : ℕ) (text : List ℕ) (within : Within) → IsBegun p q within → RestRises (q + 1) end text → TokensRise p end (step_tokens (step_at within q c text) (q + 1) text)
unfolding step_at
step_rises p q c end text Outside h rest = outside_rises p q c end text (sort_at c text) h rest
step_rises p q c end text (InWord b) h rest = word_rises p q c end text b (sort_at c text) (is_plain (sort_at c text)) refl h rest
step_rises p q c end text (InQuote b) h rest = quote_rises p q c end text b (is_dropped c text) (c == 34) refl h rest
step_rises p q c end text InLine h rest = rest p (line_step c) (line_begun p (q + 1) c (c == 10) refl (omega arith))
step_rises p q c end text (Opening start) h rest = rest p _ (omega arith)
step_rises p q c end text (InComment opener) h rest = rest p (comment_step opener c) (comment_begun p (q + 1) c opener (c == 42) refl (omega arith))
step_rises p q c end text (AtStar opener) h rest = rest p (star_step opener c) (star_begun p (q + 1) c opener (c == 47) refl (omega arith))

end_rises : (p q : ℕ) (within : Within) → IsBegun p q within → TokensRise p q (end_tokens within q)
end_rises p q Outside h = h
end_rises p q (InWord b) h = (h.0, h.1, omega arith)
end_rises p q (InQuote b) h = tt
end_rises p q InLine h = h
end_rises p q (Opening start) h = tt
end_rises p q (InComment opener) h = tt
end_rises p q (AtStar opener) h = tt

tokens_rise : (q end : ℕ) (text : List ℕ) → q + length text ≡ end → RestRises q end text
unfolding tokens_at
tokens_rise q end [] e p within h = subst (λ (n : ℕ). TokensRise p n (end_tokens within q)) e (rw (add-zero q) (end_rises p q within h))
tokens_rise q end (c ∷ cs) e p within h = step_rises p q c end cs within h (tokens_rise (q + 1) end cs (omega (arith, e)))

-- ---- statements

-- words rise from place p on, and end before q
abbrev WordsRise : ℕ → ℕ → List Word → Type 0
WordsRise p q [] = p ≤ q
WordsRise p q (w ∷ ws) = (p ≤ w.span.start) × (w.span.start < w.span.end) × WordsRise w.span.end q ws

word_more : (p q : ℕ) (w : Word) (ws : List Word) → q ≤ w.span.start → w.span.start < w.span.end → WordsRise p q ws → WordsRise p w.span.end (ws ++ w ∷ [])
word_more p q w [] le lt h = (omega arith, lt, omega arith)
word_more p q w (v ∷ vs) le lt h = (h.0, h.1, word_more v.span.end q w vs le lt h.2)

end_within : (p q : ℕ) (ws : List Word) → WordsRise p q ws → (p ≤ end_of p ws) × (end_of p ws ≤ q)
end_within p q [] h = (omega arith, h)
end_within p q (w ∷ ws) h = let rest = end_within w.span.end q ws h.2 in (omega (arith, h.0, h.1, rest.0), rest.1)

-- the statements of an outcome rise
abbrev OutcomeRises : ℕ → ℕ → Outcome → Type 0
OutcomeRises p end (Ok ss) = StatementsRise p end ss
OutcomeRises p end (Err fault) = Unit {0}

statements_lower : (q p end : ℕ) (ss : List Statement) → q ≤ p → StatementsRise p end ss → StatementsRise q end ss
statements_lower q p end [] le h = omega arith
statements_lower q p end (s ∷ ss) le h = (omega (arith, h.0), h.1, h.2)

front_rises : (p q end : ℕ) (s : Statement) (o : Outcome) → p ≤ s.span.start → s.span.start < s.span.end → s.span.end ≤ q → OutcomeRises q end o → OutcomeRises p end (in_front (s ∷ []) o)
front_rises p q end s (Ok ss) low some within h = (low, some, statements_lower s.span.end q end ss within h)
front_rises p q end s (Err fault) low some within h = tt

-- a statement of words that end before place q, which ends it
ended_rises : (p q m end : ℕ) (words : List Word) (s : Statement) (o : Outcome) → s.span ≡ span_of_words words m → WordsRise p q words → q ≤ m → OutcomeRises (m + 1) end o → OutcomeRises p end (in_front (s ∷ []) o)
ended_rises p q m end [] s o is h le rest = front_rises p (m + 1) end s o (rw is (omega arith)) (rw is (omega arith)) (rw is (omega arith)) rest
ended_rises p q m end (w ∷ ws) s o is h le rest =
    let within = end_within w.span.end q ws h.2 in
    front_rises p (m + 1) end s o (rw is h.0) (rw is (omega (arith, h.1, within.0))) (rw is (omega (arith, within.1))) rest

end_outcome : (p end : ℕ) (words : List Word) (opened : List Span) → WordsRise p end words → OutcomeRises p end (at_text_end words opened)
end_outcome p end (w ∷ ws) opened h = tt
end_outcome p end [] (s ∷ opened) h = tt
end_outcome p end [] [] h = h

words_end : (p q end : ℕ) (ws : List Word) → q ≤ end → WordsRise p q ws → WordsRise p end ws
words_end p q end [] le h = omega arith
words_end p q end (w ∷ ws) le h = (h.0, h.1, words_end w.span.end q end ws le h.2)

grouped_rises : (ts : List Token) (p q end : ℕ) (words : List Word) (opened : List Span) → WordsRise p q words → TokensRise q end ts → OutcomeRises p end (grouped words opened ts)
unfolding grouped
grouped_rises [] p q end words opened h rise = end_outcome p end words opened (words_end p q end words rise h)
grouped_rises (IsWord w ∷ ts) p q end words opened h rise = grouped_rises ts p w.span.end end (words ++ w ∷ []) opened (word_more p q w words rise.0 rise.1 h) rise.2
grouped_rises (Unclosed kind place ∷ ts) p q end words opened h rise = tt
grouped_rises (Ender Semi m ∷ ts) p q end words opened h rise = ended_rises p q m end words _ (grouped [] opened ts) refl h rise.0 (grouped_rises ts (m + 1) (m + 1) end [] opened (omega arith) rise.1)
grouped_rises (Ender Open m ∷ ts) p q end words opened h rise = ended_rises p q m end words _ (grouped [] (span_of_words words m ∷ opened) ts) refl h rise.0 (grouped_rises ts (m + 1) (m + 1) end [] (span_of_words words m ∷ opened) (omega arith) rise.1)
grouped_rises (Ender Close m ∷ ts) p q end (w ∷ ws) opened h rise = tt
grouped_rises (Ender Close m ∷ ts) p q end [] [] h rise = tt
grouped_rises (Ender Close m ∷ ts) p q end [] (block ∷ opened) h rise = ended_rises p q m end [] _ (grouped [] opened ts) refl h rise.0 (grouped_rises ts (m + 1) (m + 1) end [] opened (omega arith) rise.1)

found_rise : (end : ℕ) (o : Outcome) → OutcomeRises 0 end o → IfSome (cut_in o) (StatementsRise 0 end)
found_rise end (Ok ss) h = h
found_rise end (Err fault) h = tt

-- the statements of a Junos text rise, and lie within it
pub junos_rises : (text : List ℕ) → IfSome (junos_cut text) (StatementsRise 0 (length text))
unfolding cut_or_fault
junos_rises text = found_rise (length text) (cut_or_fault text) (grouped_rises (tokens_at Outside 0 text) 0 0 (length text) [] [] (omega arith) (tokens_rise 0 (length text) text (omega arith) 0 Outside (omega arith)))
