-- What words and sets of an IOS pattern span from the start of a number, up to a place where no number
-- goes on: that one number, which they hold.
use Rattle.std.proofs.Common.{◌≡◌, refl, sym, ap, subst, ◌∙◌, ℕ, suc, ◌+◌, ◌-◌, ◌^◌, ◌<◌, ◌≤◌, Bool, true, nat_le, List, [], ◌∷◌, ◌++◌, length, arith, inl, inr, ◌⊎◌, length-append}
use Rattle.std.specs.Prelude.{decimal}
use Rattle.std.specs.List.{list_all, AllByRecursion}
use Rattle.std.proofs.lemmas.Bool.{and_parts, and_from, le-leb, eqb-true, eq-eqb, or_left, or_right, or_cases}
use Rattle.route_types.specs.Words.{is_digit}
use Rattle.route_types.proofs.Numbers.{digit_range}
use Rattle.path_patterns.specs.Items.{IsPath}
use Rattle.path_patterns.specs.Shape.{IsDigitWord}
use Rattle.path_patterns.specs.PathItems.{has_digit, digits_fit, word_fits, word_holds, words_hold}
use Rattle.path_patterns.specs.Search.{path_text, HasDigit, SpansDigits, SpansWord, SpansSet}
use Rattle.path_patterns.specs.declared.pattern.DigitWord.{DigitWord}
use Rattle.path_patterns.specs.declared.pattern.DigitWord.TheVariants.{Any, Digits}
use Rattle.path_patterns.specs.declared.pattern.DigitSet.{DigitSet}
use Rattle.path_patterns.proofs.PathText.{behind, path_text_is, path_text_none, Edge, behind_edge, Plain, decimal_digits, decimal_some, same_cut}

-- ---- digits

-- sets span digits that fit them
record DigitsSpanned (ss : List DigitSet) (from to : List ℕ) : Type 0 where
  digits : List ℕ
  is : from ≡ digits ++ to
  fits : digits_fit ss digits ≡ true
  plain : Plain digits
  count : length digits ≡ length ss

digit_fits : (s : DigitSet) (d : ℕ) → HasDigit s d → has_digit s (48 + d - 48) ≡ true
digit_fits s d h =
    let e : d ≡ 48 + d - 48 = omega arith in
    subst (λ (n : ℕ). has_digit s n ≡ true) e (eq-eqb _ 1 h.1)

digit_plain : (d : ℕ) → d ≤ 9 → is_digit (48 + d) ≡ true
digit_plain d h = and_from (nat_le 48 (48 + d)) (nat_le (48 + d) 57) (le-leb 48 (48 + d) (omega arith)) (le-leb (48 + d) 57 (omega arith))

digits_more : (s : DigitSet) (ss : List DigitSet) (from to : List ℕ) (d : ℕ) (mid : List ℕ) → HasDigit s d → from ≡ (48 + d) ∷ mid → DigitsSpanned ss mid to → DigitsSpanned (s ∷ ss) from to
unfolding digits_fit
digits_more s ss from to d mid has e r = record {
  digits = (48 + d) ∷ r.digits;
  is = e ∙ ap (λ (cs : List ℕ). (48 + d) ∷ cs) r.is;
  fits = and_from (has_digit s (48 + d - 48)) (digits_fit ss r.digits) (digit_fits s d has) r.fits;
  plain = and_from (is_digit (48 + d)) (list_all is_digit r.digits) (digit_plain d has.0) r.plain;
  count = ap (λ (n : ℕ). suc n) r.count;
}

spans_digits : (ss : List DigitSet) (from to : List ℕ) → SpansDigits ss from to → DigitsSpanned ss from to
unfolding SpansDigits digits_fit
spans_digits [] from to h = record { digits = []; is = h; fits = refl; plain = refl; count = refl }
spans_digits (s ∷ ss) from to h = digits_more s ss from to h.0 h.1 h.2 h.3 (spans_digits ss h.1 to h.4)

digits_span : (ss : List DigitSet) (digits to : List ℕ) → digits_fit ss digits ≡ true → Plain digits → SpansDigits ss (digits ++ to) to
unfolding SpansDigits digits_fit
digits_span [] [] to f p = refl
digits_span [] (c ∷ cs) to f p = absurd cc
digits_span (s ∷ ss) [] to f p = absurd cc
digits_span (s ∷ ss) (c ∷ cs) to f p =
    let parts = and_parts (has_digit s (c - 48)) (digits_fit ss cs) f in
    let plain = and_parts (is_digit c) (list_all is_digit cs) p in
    let range = digit_range c plain.0 in
    let e : c ≡ 48 + (c - 48) = omega (arith, range.0) in
    (c - 48, cs ++ to, (omega (arith, range.1), eqb-true _ 1 parts.0), ap (λ (x : ℕ). x ∷ (cs ++ to)) e, digits_span ss cs to parts.1 plain.1)

-- ---- words

-- a word spans one digit or more that fit it
pub record WordSpanned (w : DigitWord) (from to : List ℕ) : Type 0 where
  pub digits : List ℕ
  pub is : from ≡ digits ++ to
  pub fits : word_fits w digits ≡ true
  pub plain : Plain digits
  pub some : 1 ≤ length digits

pub spans_word : (w : DigitWord) (from to : List ℕ) → IsDigitWord w → SpansWord w from to → WordSpanned w from to
spans_word Any from to shape h = record { digits = h.0; is = h.1; fits = refl; plain = h.3; some = h.2 }
spans_word (Digits ss) from to shape h =
    let r = spans_digits ss from to h in
    record { digits = r.digits; is = r.is; fits = r.fits; plain = r.plain; some = omega (arith, r.count, shape.0) }

pub word_spans : (w : DigitWord) (n : ℕ) (to : List ℕ) → n < 2 ^ 32 → word_holds w n ≡ true → SpansWord w (decimal n ++ to) to
word_spans Any n to small h = (decimal n, refl, decimal_some n small, decimal_digits n small)
word_spans (Digits ss) n to small h = digits_span ss (decimal n) to h (decimal_digits n small)

-- a word takes characters
word_shorter : (w : DigitWord) (from to : List ℕ) → IsDigitWord w → SpansWord w from to → length to < length from
word_shorter w from to shape h =
    let r = spans_word w from to shape h in
    omega (arith, r.some, ap (λ (t : List ℕ). length t) r.is, length-append r.digits to)

-- ---- one number

-- a place behind the first number of a path, which is in the set
pub record NumberTaken (fits : ℕ → Bool) (path : List ℕ) (place : List ℕ) : Type 0 where
  pub number : ℕ
  pub left : List ℕ
  pub is : path ≡ number ∷ left
  pub holds : fits number ≡ true
  pub place_is : place ≡ behind left

nothing_spanned : (digits to : List ℕ) → [] ≡ digits ++ to → 1 ≤ length digits → ⊥
nothing_spanned [] to e some = absurd (omega arith)
nothing_spanned (d ∷ ds) to e some = absurd cc

word_number : (w : DigitWord) (path to : List ℕ) → IsPath path → Edge to → WordSpanned w (path_text path) to → NumberTaken (word_holds w) path to
word_number w [] to p edge r = absurd (nothing_spanned r.digits to (sym path_text_none ∙ r.is) r.some)
word_number w (n ∷ ns) to p edge r =
    let cut = same_cut (decimal n) r.digits (behind ns) to (decimal_digits n p.0) r.plain (behind_edge ns) edge (sym (path_text_is n ns) ∙ r.is) in
    record {
      number = n;
      left = ns;
      is = refl;
      holds = ap (λ (ds : List ℕ). word_fits w ds) cut.0 ∙ r.fits;
      place_is = sym cut.1;
    }

wider : (f g : ℕ → Bool) (path place : List ℕ) → ((n : ℕ) → f n ≡ true → g n ≡ true) → NumberTaken f path place → NumberTaken g path place
wider f g path place more r = record { number = r.number; left = r.left; is = r.is; holds = more r.number r.holds; place_is = r.place_is }

pub set_number : (ws : List DigitWord) (path to : List ℕ) → AllByRecursion IsDigitWord ws → IsPath path → Edge to → SpansSet ws (path_text path) to → NumberTaken (words_hold ws) path to
set_number [] path to shape p edge h = elim h [ ]
set_number (w ∷ ws) path to shape p edge (inl h) =
    wider (word_holds w) (words_hold (w ∷ ws)) path to (λ n e. or_left (word_holds w n) (words_hold ws n) e) (word_number w path to p edge (spans_word w (path_text path) to shape.0 h))
set_number (w ∷ ws) path to shape p edge (inr h) =
    wider (words_hold ws) (words_hold (w ∷ ws)) path to (λ n e. or_right (word_holds w n) (words_hold ws n) e) (set_number ws path to shape.1 p edge h)

set_spans_cases : (w : DigitWord) (ws : List DigitWord) (n : ℕ) (to : List ℕ) → n < 2 ^ 32 → (words_hold ws n ≡ true → SpansSet ws (decimal n ++ to) to) → (word_holds w n ≡ true) ⊎ (words_hold ws n ≡ true) → SpansSet (w ∷ ws) (decimal n ++ to) to
set_spans_cases w ws n to small more (inl h) = inl (word_spans w n to small h)
set_spans_cases w ws n to small more (inr h) = inr (more h)

-- a set spans a number that it holds
set_spans : (ws : List DigitWord) (n : ℕ) (to : List ℕ) → n < 2 ^ 32 → words_hold ws n ≡ true → SpansSet ws (decimal n ++ to) to
set_spans [] n to small h = absurd cc
set_spans (w ∷ ws) n to small h = set_spans_cases w ws n to small (set_spans ws n to small) (or_cases (word_holds w n) (words_hold ws n) h)

pub number_set : (ws : List DigitWord) (n : ℕ) (left : List ℕ) → n < 2 ^ 32 → words_hold ws n ≡ true → SpansSet ws (path_text (n ∷ left)) (behind left)
number_set ws n left small h = subst (λ (from : List ℕ). SpansSet ws from (behind left)) (sym (path_text_is n left)) (set_spans ws n (behind left) small h)

-- a set takes characters
pub set_shorter : (ws : List DigitWord) (from to : List ℕ) → AllByRecursion IsDigitWord ws → SpansSet ws from to → length to < length from
set_shorter [] from to shape h = elim h [ ]
set_shorter (w ∷ ws) from to shape (inl h) = word_shorter w from to shape.0 h
set_shorter (w ∷ ws) from to shape (inr h) = set_shorter ws from to shape.1 h
