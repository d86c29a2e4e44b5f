-- The ranges of digit words hold exactly the numbers that the words spell.
use Rattle.std.proofs.Common.{◌≡◌, refl, sym, ap, subst, ◌∙◌, ℕ, zero, suc, ◌+◌, ◌-◌, ◌*◌, ◌/◌, ◌%◌, ◌^◌, ◌<◌, ◌≤◌, Bool, true, false, ◌&&◌, ◌||◌, nat_le, List, [], ◌∷◌, length, arith, inl, inr, ◌⊎◌}
use Rattle.std.specs.Prelude.{decimal}
use Rattle.std.proofs.Math.Bool.{and_assoc, and-true}
use Rattle.std.proofs.lemmas.Bool.{and_parts, leb-true, le-leb, cases_eq, false_from_ne_true}
use Rattle.std.proofs.lemmas.Bool.Decides.{nat_tests}
use Rattle.std.proofs.lemmas.Fmt.{digits_value-decimal, decimal_digit, decimal_step}
use Rattle.std.proofs.lemmas.List.{length-append}
use Rattle.std.proofs.lemmas.List.Folds.{list_any-append}
use Rattle.route_types.proofs.Numbers.{all_digits as are_digits, read_on, digits_model, IsPlainDigits, decimal_plain, digit_range}
use Rattle.route_types.specs.Words.{is_digit}
use Rattle.path_patterns.specs.Items.{in_range, in_set}
use Rattle.path_patterns.specs.PathItems.{has_digit, digits_fit, word_holds, words_hold}
use Rattle.path_patterns.specs.MergedRanges.{joined}
use Rattle.path_patterns.specs.DigitRanges.{runs, all_digits, first_digits, all_spread, spread, digits_ranges, word_ranges, ranges_of_words, set_of_words}
use Rattle.path_patterns.specs.declared.items.NumberRange.{NumberRange}
use Rattle.path_patterns.specs.declared.pattern.DigitSet.{DigitSet}
use Rattle.path_patterns.specs.declared.pattern.DigitWord.{DigitWord}
use Rattle.path_patterns.specs.declared.pattern.DigitWord.TheVariants.{Any, Digits}
use Rattle.path_patterns.proofs.MergedLaws.{in_ranges}
use Rattle.path_patterns.proofs.RisingRanges.{rising_holds}
use Rattle.path_patterns.proofs.DigitRangesJoined.{all_runs_hold, front_runs_hold}
use Rattle.path_patterns.proofs.DigitRangesSpread.{spread_by_holds}

-- ---- as many digits as sets

not_below : (cs : List ℕ) (n : ℕ) → n ≤ read_on n cs
not_below [] n = omega arith
not_below (c ∷ cs) n = omega (arith, not_below cs (n * 10 + (c - 48)))

spread_digits : (ss : List DigitSet) (cs : List ℕ) (rs : List NumberRange) (v : ℕ) → length cs ≡ length ss → are_digits cs ≡ true → read_on v cs < 2 ^ 32
    → in_ranges (spread rs ss) (read_on v cs) ≡ (in_ranges rs v && digits_fit ss cs)
unfolding spread digits_fit
spread_digits [] [] rs v same digits small = sym (and-true (in_ranges rs v))
spread_digits [] (c ∷ cs) rs v same digits small = absurd (omega (arith, same))
spread_digits (s ∷ ss) [] rs v same digits small = absurd (omega (arith, same))
spread_digits (s ∷ ss) (c ∷ cs) rs v same digits small =
    let p = and_parts (is_digit c) (are_digits cs) digits in
    let r = digit_range c p.0 in
    let m : ℕ = v * 10 + (c - 48) in
    let front : m / 10 ≡ v = omega (arith, r.0, r.1) in
    let last : m % 10 ≡ c - 48 = omega (arith, r.0, r.1) in
    let few : m < 2 ^ 32 = omega (arith, not_below cs m, small) in
    let more : length cs ≡ length ss = omega (arith, same) in
    spread_digits ss cs (joined (all_spread s (runs s all_digits) rs)) m more p.1 small
    ∙ ap (λ (b : Bool). b && digits_fit ss cs) (spread_by_holds s rs m few ∙ ap (λ (x : ℕ). in_ranges rs x && has_digit s (m % 10)) front ∙ ap (λ (x : ℕ). in_ranges rs v && has_digit s x) last)
    ∙ and_assoc (in_ranges rs v) (has_digit s (c - 48)) (digits_fit ss cs)

-- ---- another count of digits than of sets

-- a number without so many of its last digits
abbrev front_of : ℕ → ℕ → ℕ
front_of zero n = n
front_of (suc k) n = front_of k (n / 10)

front_within : (k n : ℕ) → front_of k n ≤ n
front_within zero n = omega arith
front_within (suc k) n = omega (arith, front_within k (n / 10))

front_behind : (k n : ℕ) → front_of k (n / 10) ≡ front_of k n / 10
front_behind zero n = refl
front_behind (suc k) n = front_behind k (n / 10)

spread_front : (ss : List DigitSet) (rs : List NumberRange) (n : ℕ) → n < 2 ^ 32 → in_ranges (spread rs ss) n ≡ true → in_ranges rs (front_of (length ss) n) ≡ true
unfolding spread
spread_front [] rs n small e = e
spread_front (s ∷ ss) rs n small e =
    let k : ℕ = length ss in
    let few : front_of k n < 2 ^ 32 = omega (arith, front_within k n) in
    let h = spread_front ss (joined (all_spread s (runs s all_digits) rs)) n small e in
    let p = and_parts (in_ranges rs (front_of k n / 10)) (has_digit s (front_of k n % 10)) (sym (spread_by_holds s rs (front_of k n) few) ∙ h) in
    ap (λ (x : ℕ). in_ranges rs x) (front_behind k n) ∙ p.0

length_by_front : (k n : ℕ) → n < 2 ^ 32 → 1 ≤ front_of k n → front_of k n ≤ 9 → length (decimal n) ≡ suc k
length_by_front zero n small some few = ap (λ (ds : List ℕ). length ds) (decimal_digit n (omega arith))
length_by_front (suc k) n small some few =
    let more : 10 ≤ n = omega (arith, front_within k (n / 10)) in
    let h : length (decimal (n / 10)) ≡ suc k = length_by_front k (n / 10) (omega arith) some few in
    ap (λ (ds : List ℕ). length ds) (decimal_step n more (omega arith)) ∙ length-append (decimal (n / 10)) ((48 + n % 10) ∷ []) ∙ omega (arith, h)

length_of_front : (s : DigitSet) (ss : List DigitSet) (n : ℕ) → n < 2 ^ 32 → in_ranges (runs s (first_digits ss)) (front_of (length ss) n) ≡ true → length (decimal n) ≡ suc (length ss)
length_of_front s [] n small e =
    let p = and_parts (nat_le n 9) (has_digit s n) (sym (all_runs_hold s n) ∙ e) in
    ap (λ (ds : List ℕ). length ds) (decimal_digit n (omega (arith, leb-true n 9 p.0)))
length_of_front s (t ∷ ts) n small e =
    let d : ℕ = front_of (suc (length ts)) n in
    let p = and_parts (nat_le 1 d && nat_le d 9) (has_digit s d) (sym (front_runs_hold s d) ∙ e) in
    let q = and_parts (nat_le 1 d) (nat_le d 9) p.0 in
    length_by_front (suc (length ts)) n small (leb-true 1 d q.0) (leb-true d 9 q.1)

pub fit_length : (ss : List DigitSet) (cs : List ℕ) → digits_fit ss cs ≡ true → length cs ≡ length ss
unfolding digits_fit
fit_length [] [] e = refl
fit_length [] (c ∷ cs) e = absurd cc
fit_length (s ∷ ss) [] e = absurd cc
fit_length (s ∷ ss) (c ∷ cs) e = ap (λ (k : ℕ). suc k) (fit_length ss cs (and_parts (has_digit s (c - 48)) (digits_fit ss cs) e).1)

-- ---- a word

first_test : (b : Bool) (d : ℕ) (h : Bool) → b ≡ true → (b && h) ≡ h
first_test true d h e = refl
first_test false d h e = absurd cc

-- the first digit is 0 only where no other stands behind it
first_hold : (s : DigitSet) (ss : List DigitSet) (d : ℕ) → d ≤ 9 → (1 ≤ length ss → 1 ≤ d) → in_ranges (runs s (first_digits ss)) d ≡ has_digit s d
first_hold s [] d few some = all_runs_hold s d ∙ first_test (nat_le d 9) d (has_digit s d) (le-leb d 9 few)
first_hold s (t ∷ ts) d few some =
    let k : 1 ≤ d = some (omega arith) in
    let e : (nat_le 1 d && nat_le d 9) ≡ true = grind (arith, nat_tests) in
    front_runs_hold s d ∙ first_test (nat_le 1 d && nat_le d 9) d (has_digit s d) e

as_many : (s : DigitSet) (ss : List DigitSet) (c : ℕ) (cs : List ℕ) (n : ℕ) → n < 2 ^ 32 → IsPlainDigits (c ∷ cs) → read_on 0 (c ∷ cs) ≡ n → length cs ≡ length ss
    → in_ranges (spread (runs s (first_digits ss)) ss) n ≡ digits_fit (s ∷ ss) (c ∷ cs)
unfolding digits_fit
as_many s ss c cs n small plain value same =
    let p = and_parts (is_digit c) (are_digits cs) plain.digits in
    let r = digit_range c p.0 in
    let some : 1 ≤ length ss → 1 ≤ 0 * 10 + (c - 48) = λ (k : 1 ≤ length ss). front_some c (length cs) r.0 plain.plain (omega (arith, same)) in
    ap (λ (x : ℕ). in_ranges (spread (runs s (first_digits ss)) ss) x) (sym value)
    ∙ spread_digits ss cs (runs s (first_digits ss)) (0 * 10 + (c - 48)) same p.1 (omega (arith, value))
    ∙ ap (λ (b : Bool). b && digits_fit ss cs) (first_hold s ss (0 * 10 + (c - 48)) (omega (arith, r.1)) some)
    ∙ ap (λ (x : ℕ). has_digit s x && digits_fit ss cs) alone
  where
    alone : 0 * 10 + (c - 48) ≡ c - 48
    alone = omega arith

    front_some : (c k : ℕ) → 48 ≤ c → (c ≡ 48 → suc k ≡ 1) → 1 ≤ k → 1 ≤ 0 * 10 + (c - 48)
    front_some c k least plain more = by (cases_eq c 48)
      where
        by : (c ≡ 48) ⊎ (c ≡ 48 → ⊥) → 1 ≤ 0 * 10 + (c - 48)
        by (inl e) = absurd (omega (arith, plain e))
        by (inr e) = omega (arith, e)

other_count : (s : DigitSet) (ss : List DigitSet) (c : ℕ) (cs : List ℕ) (n : ℕ) → n < 2 ^ 32 → decimal n ≡ c ∷ cs → (length cs ≡ length ss → ⊥)
    → in_ranges (spread (runs s (first_digits ss)) ss) n ≡ digits_fit (s ∷ ss) (c ∷ cs)
other_count s ss c cs n small word other =
    let left : in_ranges (spread (runs s (first_digits ss)) ss) n ≡ false = false_from_ne_true (in_ranges (spread (runs s (first_digits ss)) ss) n)
    (λ e. let k = length_of_front s ss n small (spread_front ss (runs s (first_digits ss)) n small e) in
    other (omega (arith, sym (ap (λ (ds : List ℕ). length ds) word) ∙ k))) in
    let right : digits_fit (s ∷ ss) (c ∷ cs) ≡ false = false_from_ne_true (digits_fit (s ∷ ss) (c ∷ cs))
    (λ e. let k : suc (length cs) ≡ suc (length ss) = fit_length (s ∷ ss) (c ∷ cs) e in other (omega (arith, k))) in
    left ∙ sym right

by_count : (s : DigitSet) (ss : List DigitSet) (c : ℕ) (cs : List ℕ) (n : ℕ) → n < 2 ^ 32 → decimal n ≡ c ∷ cs → (length cs ≡ length ss) ⊎ (length cs ≡ length ss → ⊥)
    → in_ranges (spread (runs s (first_digits ss)) ss) n ≡ digits_fit (s ∷ ss) (c ∷ cs)
by_count s ss c cs n small word (inl same) =
    as_many s ss c cs n small (subst IsPlainDigits word (decimal_plain n (omega arith))) (sym (ap (read_on 0) word) ∙ digits_value-decimal digits_model n (omega arith)) same
by_count s ss c cs n small word (inr other) = other_count s ss c cs n small word other

by_word : (ss : List DigitSet) (word : List ℕ) (n : ℕ) → n < 2 ^ 32 → decimal n ≡ word → in_ranges (digits_ranges ss) n ≡ digits_fit ss word
unfolding digits_fit
by_word [] [] n small word = absurd (omega (arith, (decimal_plain n (omega arith)).some, ap (λ (ds : List ℕ). length ds) word))
by_word [] (c ∷ cs) n small word = refl
by_word (s ∷ ss) [] n small word = absurd (omega (arith, (decimal_plain n (omega arith)).some, ap (λ (ds : List ℕ). length ds) word))
by_word (s ∷ ss) (c ∷ cs) n small word = by_count s ss c cs n small word (cases_eq (length cs) (length ss))

word_ranges_hold : (w : DigitWord) (n : ℕ) → n < 2 ^ 32 → in_ranges (word_ranges w) n ≡ word_holds w n
word_ranges_hold Any n small = grind (arith, nat_tests)
word_ranges_hold (Digits ss) n small = by_word ss (decimal n) n small refl

-- ---- words

ranges_hold : (ws : List DigitWord) (n : ℕ) → n < 2 ^ 32 → in_ranges (ranges_of_words ws) n ≡ words_hold ws n
unfolding ranges_of_words
ranges_hold [] n small = refl
ranges_hold (w ∷ ws) n small =
    list_any-append (λ r. in_range r n) (word_ranges w) (ranges_of_words ws)
    ∙ ap (λ (b : Bool). b || in_ranges (ranges_of_words ws) n) (word_ranges_hold w n small)
    ∙ ap (λ (b : Bool). word_holds w n || b) (ranges_hold ws n small)

-- the set of words has just the numbers that one of them spells
pub words_ranges : (ws : List DigitWord) (n : ℕ) → n < 2 ^ 32 → in_set (set_of_words ws) n ≡ words_hold ws n
words_ranges ws n small = rising_holds (ranges_of_words ws) n ∙ ranges_hold ws n small
