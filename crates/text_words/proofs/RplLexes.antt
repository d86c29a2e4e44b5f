-- The reader of RPL words keeps to its signs, and so reads the words that are written.
use Rattle.std.proofs.Common.{◌≡◌, refl, sym, ap, ap₂, subst, ◌∙◌, ℕ, ◌+◌, Bool, true, false, ◌||◌, not, List, [], ◌∷◌, ◌++◌, length, append_assoc, append-nil, arith}
use Rattle.std.specs.Prelude.{◌==◌}
use Rattle.std.specs.List.{list_all}
use Rattle.std.proofs.lemmas.Bool.{ne_eqb, and_parts, or_parts}
use Rattle.text_words.specs.declared.rpl_words.Begun.{Begun}
use Rattle.text_words.specs.declared.rpl_words.Standing.TheVariants.{Behind, Within, Quoted}
use Rattle.text_words.specs.declared.rpl_words.ByteSort.{ByteSort}
use Rattle.text_words.specs.declared.rpl_words.ByteSort.TheVariants.{Single, Quote, Ordinary}
use Rattle.text_words.specs.declared.statement.Word.{Word}
use Rattle.text_words.specs.Pieces.{word_at}
use Rattle.text_words.specs.Lexes.{Lexes}
use Rattle.text_words.specs.RplWords.{Lexeme, IsWord, is_single, has_quote, sort_at, word_to, past, given, lexemes}
use Rattle.text_words.specs.RplText.{is_letter, is_quotable, is_plain, rpl_signs}

-- two bytes that a test tells apart
pub apart : (P : ℕ → Bool) (b c : ℕ) (t : Bool) → P b ≡ not t → P c ≡ t → (c == b) ≡ false
apart P b c true without with = ne_eqb c b (λ (e : c ≡ b). let k : P b ≡ true = subst (λ (x : ℕ). P x ≡ true) e with in absurd cc)
apart P b c false without with = ne_eqb c b (λ (e : c ≡ b). let k : P b ≡ false = subst (λ (x : ℕ). P x ≡ false) e with in absurd cc)

pub not_true : (b : Bool) → not b ≡ true → b ≡ false
not_true true h = absurd cc
not_true false h = refl

-- ---- what the bytes are

pub letter_sort : (c : ℕ) (behind : List ℕ) → is_letter c ≡ true → sort_at c behind ≡ Ordinary
unfolding sort_at
letter_sort c behind h =
    let apart_from : (b : ℕ) → is_letter b ≡ false → (c == b) ≡ false = λ b e. apart is_letter b c true e h in
    rw (apart_from 10 refl, apart_from 32 refl, apart_from 9 refl, apart_from 13 refl, apart_from 40 refl, apart_from 41 refl, apart_from 44 refl, apart_from 39 refl, sort_at) refl

pub mark_sort : (c : ℕ) (behind : List ℕ) → is_single c ≡ true → sort_at c behind ≡ Single
unfolding sort_at
mark_sort c behind h =
    let apart_from : (b : ℕ) → is_single b ≡ false → (c == b) ≡ false = λ b e. apart is_single b c true e h in
    rw (apart_from 10 refl, apart_from 32 refl, apart_from 9 refl, apart_from 13 refl, h, sort_at) refl

quote_follows : (text rest : List ℕ) → list_all is_quotable text ≡ true → has_quote (text ++ (39 ∷ rest)) ≡ true
unfolding has_quote
quote_follows [] rest h = refl
quote_follows (c ∷ cs) rest h =
    let q = and_parts (is_quotable c) (list_all is_quotable cs) h in
    let r = or_parts (c == 39) (c == 10) (not_true ((c == 39) || (c == 10)) q.0) in
    rw (r.0, r.1) (quote_follows cs rest q.1)

pub quote_sort : (text rest : List ℕ) → list_all is_quotable text ≡ true → sort_at 39 (text ++ (39 ∷ rest)) ≡ Quote
unfolding sort_at
quote_sort text rest h = rw (quote_follows text rest h, sort_at) refl

-- ---- the words

-- a word ends before these bytes
abbrev pub Stops : List ℕ → Type 0
Stops rest = (b : Begun) (p : ℕ) → lexemes (Within b) p rest ≡ IsWord (word_to false b p) ∷ lexemes Behind p rest

letters_on : (text : List ℕ) (b : Begun) (p : ℕ) (rest : List ℕ) → list_all is_letter text ≡ true
    → lexemes (Within b) p (text ++ rest) ≡ lexemes (Within (record { start = b.start; text = b.text ++ text })) (p + length text) rest
unfolding lexemes
letters_on [] b p rest h =
    let e : p ≡ p + 0 = omega arith in
    ap₂ (λ (t : List ℕ) (n : ℕ). lexemes (Within (record { start = b.start; text = t })) n rest) (sym (append-nil b.text)) e
letters_on (c ∷ cs) b p rest h =
    let q = and_parts (is_letter c) (list_all is_letter cs) h in
    let e : p + 1 + length cs ≡ p + length (c ∷ cs) = omega arith in
    ap (λ (s : ByteSort). given (Within b) p c s (lexemes (past (Within b) p c s) (p + 1) (cs ++ rest))) (letter_sort c (cs ++ rest) q.0)
    ∙ letters_on cs (record { start = b.start; text = b.text ++ c ∷ [] }) (p + 1) rest q.1
    ∙ ap₂ (λ (t : List ℕ) (n : ℕ). lexemes (Within (record { start = b.start; text = t })) n rest) (append_assoc b.text (c ∷ []) cs) e

plain_read : (p : ℕ) (text rest : List ℕ) → is_plain text ≡ true → Stops rest → lexemes Behind p (text ++ rest) ≡ IsWord (word_at p text false) ∷ lexemes Behind (p + length text) rest
unfolding lexemes
plain_read p [] rest h stops = absurd cc
plain_read p (c ∷ cs) rest h stops =
    let q = and_parts (is_letter c) (list_all is_letter cs) h in
    let e : p + 1 + length cs ≡ p + length (c ∷ cs) = omega arith in
    ap (λ (s : ByteSort). given Behind p c s (lexemes (past Behind p c s) (p + 1) (cs ++ rest))) (letter_sort c (cs ++ rest) q.0)
    ∙ letters_on cs (record { start = p; text = c ∷ [] }) (p + 1) rest q.1
    ∙ ap (λ (n : ℕ). lexemes (Within (record { start = p; text = c ∷ cs })) n rest) e
    ∙ stops (record { start = p; text = c ∷ cs }) (p + length (c ∷ cs))

mark_read : (p c : ℕ) (rest : List ℕ) → is_single c ≡ true → lexemes Behind p (c ∷ rest) ≡ IsWord (word_at p (c ∷ []) false) ∷ lexemes Behind (p + 1) rest
unfolding lexemes
mark_read p c rest h = ap (λ (s : ByteSort). given Behind p c s (lexemes (past Behind p c s) (p + 1) rest)) (mark_sort c rest h)

quoted_on : (text : List ℕ) (b : Begun) (p : ℕ) (rest : List ℕ) → list_all is_quotable text ≡ true
    → lexemes (Quoted b) p (text ++ (39 ∷ rest)) ≡ IsWord (word_to true (record { start = b.start; text = b.text ++ text }) (p + length text + 1)) ∷ lexemes Behind (p + length text + 1) rest
unfolding lexemes
quoted_on [] b p rest h =
    let e : p + 1 ≡ p + 0 + 1 = omega arith in
    ap₂ (λ (t : List ℕ) (n : ℕ). IsWord (word_to true (record { start = b.start; text = t }) n) ∷ lexemes Behind n rest) (sym (append-nil b.text)) e
quoted_on (c ∷ cs) b p rest h =
    let q = and_parts (is_quotable c) (list_all is_quotable cs) h in
    let r = or_parts (c == 39) (c == 10) (not_true ((c == 39) || (c == 10)) q.0) in
    let e : p + 1 + length cs + 1 ≡ p + length (c ∷ cs) + 1 = omega arith in
    rw (r.0, lexemes) (quoted_on cs (record { start = b.start; text = b.text ++ c ∷ [] }) (p + 1) rest q.1
    ∙ ap₂ (λ (t : List ℕ) (n : ℕ). IsWord (word_to true (record { start = b.start; text = t }) n) ∷ lexemes Behind n rest) (append_assoc b.text (c ∷ []) cs) e)

quoted_read : (p : ℕ) (text rest : List ℕ) → list_all is_quotable text ≡ true
    → lexemes Behind p (39 ∷ (text ++ (39 ∷ rest))) ≡ IsWord (word_at p text true) ∷ lexemes Behind (p + (length text + 2)) rest
unfolding lexemes
quoted_read p text rest h =
    let behind = text ++ (39 ∷ rest) in
    let e : p + 1 + length text + 1 ≡ p + (length text + 2) = omega arith in
    ap (λ (s : ByteSort). given Behind p 39 s (lexemes (past Behind p 39 s) (p + 1) behind)) (quote_sort text rest h)
    ∙ quoted_on text (record { start = p; text = [] }) (p + 1) rest h
    ∙ ap (λ (n : ℕ). IsWord (word_to true (record { start = p; text = text }) n) ∷ lexemes Behind n rest) e

pub stops_at_end : (rest : List ℕ) → Stops (10 ∷ rest)
unfolding lexemes sort_at
stops_at_end rest b p = refl

stops_at_blank : (rest : List ℕ) → Stops (32 ∷ rest)
unfolding lexemes sort_at
stops_at_blank rest b p = refl

stops_at_mark : (c : ℕ) (rest : List ℕ) → is_single c ≡ true → Stops (c ∷ rest)
unfolding lexemes
stops_at_mark c rest h b p =
    ap (λ (s : ByteSort). given (Within b) p c s (lexemes (past (Within b) p c s) (p + 1) rest)) (mark_sort c rest h)
    ∙ ap (λ (ls : List Lexeme). IsWord (word_to false b p) ∷ ls) (sym (mark_read p c rest h))

stops_at_quote : (text rest : List ℕ) → list_all is_quotable text ≡ true → Stops (39 ∷ (text ++ (39 ∷ rest)))
unfolding lexemes
stops_at_quote text rest h b p =
    let behind = text ++ (39 ∷ rest) in
    let at : ByteSort → List Lexeme = λ s. given Behind p 39 s (lexemes (past Behind p 39 s) (p + 1) behind) in
    ap (λ (s : ByteSort). given (Within b) p 39 s (lexemes (past (Within b) p 39 s) (p + 1) behind)) (quote_sort text rest h)
    ∙ ap (λ (ls : List Lexeme). IsWord (word_to false b p) ∷ ls) (sym (ap at (quote_sort text rest h)))

-- a word in front of what is read behind it
abbrev pub onto : Word → List Lexeme → List Lexeme
onto w ls = IsWord w ∷ ls

pub rpl_lexes : Lexes rpl_signs (lexemes Behind) onto Stops
unfolding lexemes sort_at
rpl_lexes = record {
  blank = λ p rest. refl;
  plain = plain_read;
  mark = mark_read;
  quoted = quoted_read;
  at_blank = stops_at_blank;
  at_mark = stops_at_mark;
  at_quote = stops_at_quote;
}
