-- Lines of statements: words behind the first word of a statement are one statement.
use Rattle.std.proofs.Common.{◌≡◌, refl, sym, subst, ℕ, Bool, true, false, ◌&&◌, ◌||◌, not, List, [], ◌∷◌, ◌++◌}
use Rattle.std.specs.Prelude.{codes}
use Rattle.std.specs.List.{list_all}
use Rattle.std.proofs.lemmas.Bool.{and_parts, and_from, and_left, and_right, or_parts, or_from, or_left, or_right, not_from_false, not_from_true}
use Rattle.text_words.specs.Pieces.{Piece, word_at}
use Rattle.text_words.specs.Signs.{ends_word, are_words, is_closed, is_word as is_word_of}
use Rattle.text_words.specs.Text.{starts_with_byte}
use Rattle.text_words.specs.RplCut.{is_word, is_one_of, starts, in_condition, starts_with, ends_with}
use Rattle.text_words.specs.RplText.{rpl_signs, as_word, Step, is_kept, is_step, goes_to_end, is_line}
use Rattle.text_words.proofs.RplLexes.{not_true}
use Rattle.rpl_text.specs.Words.{spaced}
use Rattle.rpl_text.proofs.Pieces.{keys, is_value}

-- a word that is none of the words at which statements start or end
pub record IsNoKey (x : Piece) : Type 0 where
  pub no_then : is_word (codes "then") (as_word x) ≡ false
  pub no_end : is_word (codes "end-policy") (as_word x) ≡ false
  pub no_start : is_one_of starts (as_word x) ≡ false
  pub no_if : is_one_of (codes "if" ∷ codes "elseif" ∷ []) (as_word x) ≡ false
  pub no_else : is_one_of (codes "else" ∷ codes "endif" ∷ []) (as_word x) ≡ false

pub no_key_of : (x : Piece) → is_value x ≡ true → IsNoKey x
no_key_of x h =
    let w = as_word x in
    let at : List ℕ → Bool = λ key. is_word key w in
    let from_pass = is_one_of (codes "pass" ∷ codes "done" ∷ codes "drop" ∷ codes "set" ∷ codes "delete" ∷ codes "prepend" ∷ codes "apply" ∷ []) w in
    let from_endif = at (codes "endif") || from_pass in
    let from_else = at (codes "else") || from_endif in
    let from_elseif = at (codes "elseif") || from_else in
    let from_if = at (codes "if") || from_elseif in
    let from_end = at (codes "end-policy") || from_if in
    let a = or_parts (at (codes "then")) from_end (not_true (is_one_of keys w) (and_parts (is_word_of rpl_signs x.text x.quoted) (not (is_one_of keys w)) h).1) in
    let b = or_parts (at (codes "end-policy")) from_if a.1 in
    let c = or_parts (at (codes "if")) from_elseif b.1 in
    let d = or_parts (at (codes "elseif")) from_else c.1 in
    let e = or_parts (at (codes "else")) from_endif d.1 in
    let f = or_parts (at (codes "endif")) from_pass e.1 in
    record {
      no_then = a.0;
      no_end = b.0;
      no_start = b.1;
      no_if = or_from (at (codes "if")) (at (codes "elseif") || false) c.0 (or_from (at (codes "elseif")) false d.0 refl);
      no_else = or_from (at (codes "else")) (at (codes "endif") || false) e.0 (or_from (at (codes "endif")) false f.0 refl);
    }

step_on : (ends end starts more : Bool) → ends ≡ false → end ≡ false → starts ≡ false → more ≡ true → (not ends && (not end && (not starts && more))) ≡ true
step_on ends end starts more a b c d =
    and_from (not ends) (not end && (not starts && more)) (not_from_false ends a) (and_from (not end) (not starts && more) (not_from_false end b) (and_from (not starts) more (not_from_false starts c) d))

-- words behind one that opens no condition
pub values_end : (x : Piece) (xs : List Piece) → in_condition false (as_word x) ≡ false → ends_with false (as_word x) ≡ false → list_all is_value xs ≡ true → goes_to_end false x xs ≡ true
values_end x [] c e h = not_from_false (in_condition false (as_word x)) c
values_end x (y ∷ ys) c e h =
    let q = and_parts (is_value y) (list_all is_value ys) h in
    let k = no_key_of y q.0 in
    step_on (ends_with false (as_word x)) (is_word (codes "end-policy") (as_word y)) (starts_with (in_condition false (as_word x)) (as_word y)) (goes_to_end (in_condition false (as_word x)) y ys)
    e k.no_end (and_right (not (in_condition false (as_word x))) (is_one_of starts (as_word y)) k.no_start)
    (subst (λ (b : Bool). goes_to_end b y ys ≡ true) (sym c) (values_end y ys k.no_if (or_from (is_word (codes "then") (as_word y)) (is_one_of (codes "else" ∷ codes "endif" ∷ []) (as_word y)) k.no_then k.no_else) q.1))

-- words behind one with which a condition goes on, up to `then`
pub condition_ends : (b : Bool) (x : Piece) (xs : List Piece) → in_condition b (as_word x) ≡ true → ends_with b (as_word x) ≡ false → list_all is_value xs ≡ true → goes_to_end b x (xs ++ (spaced (codes "then") ∷ [])) ≡ true
condition_ends b x [] c e h =
    let last = spaced (codes "then") in
    step_on (ends_with b (as_word x)) false (starts_with (in_condition b (as_word x)) (as_word last)) (goes_to_end (in_condition b (as_word x)) last [])
    e refl (and_left (not (in_condition b (as_word x))) (is_one_of starts (as_word last)) (not_from_true (in_condition b (as_word x)) c))
    (subst (λ (t : Bool). goes_to_end t last [] ≡ true) (sym c) refl)
condition_ends b x (y ∷ ys) c e h =
    let q = and_parts (is_value y) (list_all is_value ys) h in
    let k = no_key_of y q.0 in
    let rest = ys ++ (spaced (codes "then") ∷ []) in
    step_on (ends_with b (as_word x)) (is_word (codes "end-policy") (as_word y)) (starts_with (in_condition b (as_word x)) (as_word y)) (goes_to_end (in_condition b (as_word x)) y rest)
    e k.no_end (and_right (not (in_condition b (as_word x))) (is_one_of starts (as_word y)) k.no_start)
    (subst (λ (t : Bool). goes_to_end t y rest ≡ true) (sym c)
    (condition_ends true y ys (or_left (not (is_word (codes "then") (as_word y))) false (not_from_false (is_word (codes "then") (as_word y)) k.no_then)) (or_from (is_word (codes "then") (as_word y)) false k.no_then refl) q.1))

-- a word at which a statement starts that is no `if`
pub record IsStart (key : List ℕ) : Type 0 where
  pub word : is_word_of rpl_signs key false ≡ true
  pub kept : not (starts_with_byte 33 key || starts_with_byte 35 key) ≡ true
  pub inner : not (is_word (codes "end-policy") (word_at 0 key false)) ≡ true
  pub starts : starts_with false (word_at 0 key false) ≡ true

pub first_word : (gap : ℕ) (key : List ℕ) (xs : List Piece) → is_word_of rpl_signs key false ≡ true → ends_word rpl_signs xs ≡ true → are_words rpl_signs xs ≡ true → are_words rpl_signs (record { gap = gap; text = key; quoted = false } ∷ xs) ≡ true
unfolding are_words
first_word gap key xs word ends words =
    let closed = is_closed rpl_signs key false in
    and_from (is_word_of rpl_signs key false) ((closed || ends_word rpl_signs xs) && are_words rpl_signs xs) word (and_from (closed || ends_word rpl_signs xs) (are_words rpl_signs xs) (or_right closed (ends_word rpl_signs xs) ends) words)

-- the line of a statement
pub step_line : (gap : ℕ) (key : List ℕ) (xs : List Piece) → IsStart key → ends_word rpl_signs xs ≡ true → are_words rpl_signs xs ≡ true → goes_to_end false (record { gap = gap; text = key; quoted = false }) xs ≡ true
    → is_line (Step (record { gap = gap; text = key; quoted = false } ∷ xs)) ≡ true
step_line gap key xs k ends words goes =
    let line = record { gap = gap; text = key; quoted = false } ∷ xs in
    let first = word_at 0 key false in
    and_from (are_words rpl_signs line) (is_kept line && is_step line) (first_word gap key xs k.word ends words)
    (and_from (is_kept line) (is_step line) k.kept (and_from (not (is_word (codes "end-policy") first)) (starts_with false first && goes_to_end false (record { gap = gap; text = key; quoted = false }) xs) k.inner
    (and_from (starts_with false first) (goes_to_end false (record { gap = gap; text = key; quoted = false }) xs) k.starts goes)))
