-- What is written as Junos words is cut as these words.
use Rattle.std.proofs.Common.{◌≡◌, refl, sym, ap, subst, ◌∙◌, ℕ, ◌+◌, Bool, true, false, ◌&&◌, ◌||◌, List, [], ◌∷◌, ◌++◌, length, append_assoc, append-nil, add-zero, arith}
use Rattle.std.specs.Prelude.{not, ◌==◌}
use Rattle.std.proofs.lemmas.Bool.{and_parts, or_parts, eqb-true}
use Rattle.text_words.specs.Text.{is_blank, starts_with_byte}
use Rattle.text_words.specs.declared.junos_bytes.Sort.{Sort}
use Rattle.text_words.specs.declared.junos_bytes.Sort.TheVariants.{Gap, Quote, LineComment, Comment, Bracket, Ends, Plain}
use Rattle.text_words.specs.declared.junos_words.Begun.{Begun}
use Rattle.text_words.specs.declared.junos_words.Within.TheVariants.{Outside, InWord, InQuote}
use Rattle.text_words.specs.Lexes.{Lexes}
use Rattle.text_words.specs.Pieces.{word_at}
use Rattle.text_words.specs.JunosWords.{IsWord, Step, is_dropped, is_gap, is_plain, slash_sort, sorts, sort_in, sort_at, begun, with_byte, word_up_to, goes_to, quote_step, step_at, tokens_at}
use Rattle.text_words.specs.JunosWritten.{plain_bytes, is_plain_word, quoted_bytes, junos_signs}

-- a word ends before this text
pub record Stops (rest : List ℕ) : Type 0 where
  pub no_star : starts_with_byte 42 rest ≡ false
  pub no_line : starts_with_byte 10 rest ≡ false
  pub ends : (b : Begun) (p : ℕ) → tokens_at (InWord b) p rest ≡ IsWord (word_up_to p false b) ∷ tokens_at Outside p rest

plain_is : (s : Sort) → is_plain s ≡ true → s ≡ Plain
plain_is Plain e = refl
plain_is Gap e = absurd cc
plain_is Quote e = absurd cc
plain_is LineComment e = absurd cc
plain_is Comment e = absurd cc
plain_is Bracket e = absurd cc
plain_is (Ends m) e = absurd cc

-- what stands behind a word changes no byte of it
sort_onto : (c : ℕ) (cs rest : List ℕ) → Stops rest → sort_at c (cs ++ rest) ≡ sort_at c cs
unfolding sort_at
sort_onto c [] rest stops =
    let slash : slash_sort rest ≡ slash_sort [] = rw (stops.no_star, slash_sort) refl in
    ap (λ (line : Bool). elim (is_blank c || (c == 10) || ((c == 13) && line)) [ true ↦ Gap | false ↦ sort_in (sorts (slash_sort rest)) c ]) stops.no_line
    ∙ ap (λ (s : Sort). elim (is_gap c []) [ true ↦ Gap | false ↦ sort_in (sorts s) c ]) slash
sort_onto c (d ∷ ds) rest stops = refl

sort_plain : (c : ℕ) (cs rest : List ℕ) → is_plain (sort_at c cs) ≡ true → Stops rest → sort_at c (cs ++ rest) ≡ Plain
sort_plain c cs rest plain stops = sort_onto c cs rest stops ∙ plain_is (sort_at c cs) plain

-- a word that is begun, with more bytes
with_bytes : Begun → List ℕ → Begun
with_bytes b cs = record { first = b.first; text = b.text ++ cs }

-- a word goes on to its end
word_read : (text rest : List ℕ) (b : Begun) (p : ℕ) → plain_bytes text ≡ true → Stops rest → tokens_at (InWord b) p (text ++ rest) ≡ IsWord (word_up_to (p + length text) false (with_bytes b text)) ∷ tokens_at Outside (p + length text) rest
unfolding plain_bytes tokens_at step_at with_bytes
word_read [] rest b p plain stops = rw (add-zero p, append-nil b.text) (stops.ends b p)
word_read (c ∷ cs) rest b p plain stops =
    let q = and_parts (is_plain (sort_at c cs)) (plain_bytes cs) plain in
    let place : p + 1 + length cs ≡ p + length (c ∷ cs) = omega arith in
    rw (sort_plain c cs rest q.0 stops)
    (word_read cs rest (with_byte b c) (p + 1) q.1 stops ∙ rw (place, append_assoc b.text (c ∷ []) cs) refl)

not_true : (b : Bool) → not b ≡ true → b ≡ false
not_true true e = absurd cc
not_true false e = refl

dropped_onto : (c : ℕ) (cs rest : List ℕ) → is_dropped c (cs ++ (34 ∷ rest)) ≡ is_dropped c cs
dropped_onto c [] rest = refl
dropped_onto c (d ∷ ds) rest = refl

quote_on : (b : Begun) (p c : ℕ) (dropped : Bool) → (c == 34) ≡ false → dropped ≡ false → quote_step b p c dropped ≡ goes_to (InQuote (with_byte b c))
quote_on b p c true other kept = absurd cc
quote_on b p c false other kept = rw (other, quote_step) refl

-- a quoted word goes on to its quote
quote_read : (text rest : List ℕ) (b : Begun) (p : ℕ) → quoted_bytes text ≡ true → tokens_at (InQuote b) p (text ++ (34 ∷ rest)) ≡ IsWord (word_up_to (p + (length text + 1)) true (with_bytes b text)) ∷ tokens_at Outside (p + (length text + 1)) rest
unfolding quoted_bytes tokens_at step_at with_bytes
quote_read [] rest b p fits = rw (append-nil b.text) refl
quote_read (c ∷ cs) rest b p fits =
    let q = and_parts (not (c == 34 || is_dropped c cs)) (quoted_bytes cs) fits in
    let r = or_parts (c == 34) (is_dropped c cs) (not_true (c == 34 || is_dropped c cs) q.0) in
    let place : p + 1 + (length cs + 1) ≡ p + (length (c ∷ cs) + 1) = omega arith in
    let behind = cs ++ (34 ∷ rest) in
    ap (λ (s : Step). s.tokens ++ tokens_at s.within (p + 1) behind) (quote_on b p c (is_dropped c behind) r.0 (dropped_onto c cs rest ∙ r.1))
    ∙ quote_read cs rest (with_byte b c) (p + 1) q.1 ∙ rw (place, append_assoc b.text (c ∷ []) cs) refl

plain_read : (p : ℕ) (text rest : List ℕ) → is_plain_word text ≡ true → Stops rest → tokens_at Outside p (text ++ rest) ≡ IsWord (word_at p text false) ∷ tokens_at Outside (p + length text) rest
unfolding plain_bytes tokens_at step_at with_bytes
plain_read p [] rest fits stops = absurd cc
plain_read p (c ∷ cs) rest fits stops =
    let q = and_parts (is_plain (sort_at c cs)) (plain_bytes cs) fits in
    let place : p + 1 + length cs ≡ p + length (c ∷ cs) = omega arith in
    rw (sort_plain c cs rest q.0 stops) (word_read cs rest (begun p (c ∷ [])) (p + 1) q.1 stops ∙ rw place refl)

quoted_read : (p : ℕ) (text rest : List ℕ) → quoted_bytes text ≡ true → tokens_at Outside p (34 ∷ (text ++ (34 ∷ rest))) ≡ IsWord (word_at p text true) ∷ tokens_at Outside (p + (length text + 2)) rest
unfolding tokens_at step_at sort_at with_bytes
quoted_read p text rest fits =
    let place : p + 1 + (length text + 1) ≡ p + (length text + 2) = omega arith in
    quote_read text rest (begun p []) (p + 1) fits ∙ rw place refl

by_first : (P : ℕ → Type 0) (c : ℕ) (first : Bool) → (c == 91) ≡ first → (first || c == 93) ≡ true → P 91 → P 93 → P c
by_first P c true is e opening closing = subst P (sym (eqb-true c 91 is)) opening
by_first P c false is e opening closing = subst P (sym (eqb-true c 93 e)) closing

-- a bracket is one of the two
bracket_is : (P : ℕ → Type 0) (c : ℕ) → (c == 91 || c == 93) ≡ true → P 91 → P 93 → P c
bracket_is P c e opening closing = by_first P c (c == 91) refl e opening closing

mark_read : (p c : ℕ) (rest : List ℕ) → (c == 91 || c == 93) ≡ true → tokens_at Outside p (c ∷ rest) ≡ IsWord (word_at p (c ∷ []) false) ∷ tokens_at Outside (p + 1) rest
unfolding tokens_at step_at sort_at
mark_read p c rest e = bracket_is (λ (d : ℕ). tokens_at Outside p (d ∷ rest) ≡ IsWord (word_at p (d ∷ []) false) ∷ tokens_at Outside (p + 1) rest) c e refl refl

mark_stops : (c : ℕ) (rest : List ℕ) → (c == 91 || c == 93) ≡ true → Stops (c ∷ rest)
unfolding tokens_at step_at sort_at
mark_stops c rest e = bracket_is (λ (d : ℕ). Stops (d ∷ rest)) c e (record { no_star = refl; no_line = refl; ends = λ b p. refl }) (record { no_star = refl; no_line = refl; ends = λ b p. refl })

-- the cut of Junos keeps to its signs
pub junos_lexes : Lexes junos_signs (tokens_at Outside) (λ w ts. IsWord w ∷ ts) Stops
unfolding tokens_at step_at sort_at
junos_lexes = record {
  blank = λ p rest. refl;
  plain = plain_read;
  mark = mark_read;
  quoted = quoted_read;
  at_blank = λ rest. record { no_star = refl; no_line = refl; ends = λ b p. refl };
  at_mark = mark_stops;
  at_quote = λ text rest fits. record { no_star = refl; no_line = refl; ends = λ b p. refl };
}
