-- The block of numbers that starts at a number: its front, a run of digits, and full sets behind it.
use Rattle.std.proofs.Common.{◌≡◌, refl, sym, ap, subst, ◌∙◌, ℕ, ◌+◌, ◌-◌, ◌*◌, ◌/◌, ◌%◌, ◌^◌, ◌<◌, ◌≤◌, Bool, true, false, ◌&&◌, nat_le, List, [], ◌∷◌, ◌++◌, length, arith, inl, inr, ◌⊎◌}
use Rattle.std.specs.Prelude.{decimal}
use Rattle.std.specs.List.{AllByRecursion}
use Rattle.std.proofs.Math.Bool.{and_assoc, and-true, and-false}
use Rattle.std.proofs.lemmas.Bool.{cases_lt, false_from_ne_true, and_from, le-leb}
use Rattle.std.proofs.lemmas.Bool.Decides.{nat_tests}
use Rattle.std.proofs.lemmas.Fmt.{decimal_digit, decimal_step, decimal_nonempty, length-decimal-le}
use Rattle.std.proofs.lemmas.List.{length-append}
use Rattle.path_patterns.specs.Shape.{IsDigitSet, IsDigitWord}
use Rattle.path_patterns.specs.PathItems.{has_digit, digits_fit}
use Rattle.path_patterns.specs.RangeWords.{run_of, IsRun, last_digit, IsBlock}
use Rattle.path_patterns.specs.declared.pattern.DigitSet.{DigitSet}
use Rattle.path_patterns.specs.declared.pattern.DigitWord.TheVariants.{Digits}
use Rattle.path_patterns.proofs.DigitRangesWords.{fit_length}
use Rattle.path_patterns.proofs.RangeWordsRuns.{run_digits, run_set, run_is}

-- ---- one set behind others

none_left : (ds : List ℕ) (c : ℕ) → digits_fit [] (ds ++ (c ∷ [])) ≡ false
unfolding digits_fit
none_left [] c = refl
none_left (d ∷ ds) c = refl

none_to_fit : (ss : List DigitSet) (s : DigitSet) → digits_fit (ss ++ (s ∷ [])) [] ≡ false
unfolding digits_fit
none_to_fit [] s = refl
none_to_fit (t ∷ ts) s = refl

fit_behind : (ss : List DigitSet) (s : DigitSet) (cs : List ℕ) (c : ℕ) → digits_fit (ss ++ (s ∷ [])) (cs ++ (c ∷ [])) ≡ (digits_fit ss cs && has_digit s (c - 48))
unfolding digits_fit
fit_behind [] s [] c = and-true (has_digit s (c - 48))
fit_behind [] s (d ∷ ds) c = ap (λ (b : Bool). has_digit s (d - 48) && b) (none_left ds c) ∙ and-false (has_digit s (d - 48))
fit_behind (t ∷ ts) s [] c = ap (λ (b : Bool). has_digit t (c - 48) && b) (none_to_fit ts s) ∙ and-false (has_digit t (c - 48))
fit_behind (t ∷ ts) s (d ∷ ds) c =
    ap (λ (b : Bool). has_digit t (d - 48) && b) (fit_behind ts s ds c)
    ∙ sym (and_assoc (has_digit t (d - 48)) (digits_fit ts ds) (has_digit s (c - 48)))

one_digit_short : (ss : List DigitSet) (s : DigitSet) (n : ℕ) → n < 10 → 1 ≤ length ss → digits_fit (ss ++ (s ∷ [])) (decimal n) ≡ false
one_digit_short ss s n few some = false_from_ne_true (digits_fit (ss ++ (s ∷ [])) (decimal n))
    (λ e. let k : length (decimal n) ≡ length (ss ++ (s ∷ [])) = fit_length (ss ++ (s ∷ [])) (decimal n) e in
    absurd (omega (arith, k, ap (λ (ds : List ℕ). length ds) (decimal_digit n few), length-append ss (s ∷ []))))

more_digits : (ss : List DigitSet) (s : DigitSet) (n : ℕ) → 10 ≤ n → n < 2 ^ 32 → digits_fit (ss ++ (s ∷ [])) (decimal n) ≡ (digits_fit ss (decimal (n / 10)) && has_digit s (n % 10))
more_digits ss s n many small =
    let last : 48 + n % 10 - 48 ≡ n % 10 = omega arith in
    ap (digits_fit (ss ++ (s ∷ []))) (decimal_step n many (omega arith))
    ∙ fit_behind ss s (decimal (n / 10)) (48 + n % 10)
    ∙ ap (λ (x : ℕ). digits_fit ss (decimal (n / 10)) && has_digit s x) last

-- ---- a run behind sets

all_runs : (ss : List DigitSet) (s : DigitSet) → AllByRecursion IsRun ss → IsRun s → AllByRecursion IsRun (ss ++ (s ∷ []))
all_runs [] s h k = (k, tt)
all_runs (t ∷ ts) s h k = (h.0, all_runs ts s h.1 k)

-- the sets spell numbers of two digits or more, whose front is x to y and whose last digit is d to e
run_behind : (x y d e a b n : ℕ) (ss : List DigitSet) → n < 2 ^ 32 → d ≤ e → e ≤ 9 → 1 ≤ length ss → 10 ≤ a
    → (10 ≤ n → (nat_le a n && nat_le n b) ≡ ((nat_le x (n / 10) && nat_le (n / 10) y) && (nat_le d (n % 10) && nat_le (n % 10) e)))
    → digits_fit ss (decimal (n / 10)) ≡ (nat_le x (n / 10) && nat_le (n / 10) y)
    → digits_fit (ss ++ (run_of d e ∷ [])) (decimal n) ≡ (nat_le a n && nat_le n b)
run_behind x y d e a b n ss small rises digit some from same front = by (cases_lt n 10)
  where
    by : (n < 10) ⊎ (10 ≤ n) → digits_fit (ss ++ (run_of d e ∷ [])) (decimal n) ≡ (nat_le a n && nat_le n b)
    by (inl few) =
        let none : (nat_le a n && nat_le n b) ≡ false = grind (arith, nat_tests) in
        one_digit_short ss (run_of d e) n few some ∙ sym none
    by (inr many) =
        more_digits ss (run_of d e) n many small
        ∙ ap (λ (t : Bool). t && has_digit (run_of d e) (n % 10)) front
        ∙ ap (λ (t : Bool). (nat_le x (n / 10) && nat_le (n / 10) y) && t) (run_digits d e (n % 10) rises digit (omega arith))
        ∙ sym (same many)

full_same : (a b m n : ℕ) → a % 10 ≡ 0 → (nat_le a n && nat_le n (10 * m + 9)) ≡ ((nat_le (a / 10) (n / 10) && nat_le (n / 10) m) && (nat_le 0 (n % 10) && nat_le (n % 10) 9))
full_same a b m n e = grind (arith, nat_tests)

one_front : (a e n : ℕ) → a % 10 ≤ e → e ≤ 9 → (nat_le a n && nat_le n (a + (e - a % 10))) ≡ ((nat_le (a / 10) (n / 10) && nat_le (n / 10) (a / 10)) && (nat_le (a % 10) (n % 10) && nat_le (n % 10) e))
one_front a e n h k = grind (arith, nat_tests)

-- ---- the three kinds of block

last_bounds : (a b : ℕ) → a ≤ b → (a % 10 ≤ last_digit a b) × (last_digit a b ≤ 9) × (a + (last_digit a b - a % 10) ≤ b)
last_bounds a b h = (grind (arith, nat_tests), grind (arith, nat_tests), grind (arith, nat_tests))

one_digit_test : (s : DigitSet) (n : ℕ) → digits_fit (s ∷ []) ((48 + n) ∷ []) ≡ has_digit s (48 + n - 48)
unfolding digits_fit
one_digit_test s n = and-true (has_digit s (48 + n - 48))

no_front : (n : ℕ) → 10 ≤ n → n < 2 ^ 32 → digits_fit [] (decimal (n / 10)) ≡ false
no_front n many small = false_from_ne_true (digits_fit [] (decimal (n / 10)))
    (λ k. absurd (omega (arith, fit_length [] (decimal (n / 10)) k, decimal_nonempty (n / 10) (omega arith))))

run_alone : (a e n : ℕ) → a ≤ e → e ≤ 9 → n < 2 ^ 32 → digits_fit (run_of a e ∷ []) (decimal n) ≡ (nat_le a n && nat_le n e)
run_alone a e n rises digit small = by (cases_lt n 10)
  where
    by : (n < 10) ⊎ (10 ≤ n) → digits_fit (run_of a e ∷ []) (decimal n) ≡ (nat_le a n && nat_le n e)
    by (inl few) =
        let same : 48 + n - 48 ≡ n = omega arith in
        ap (digits_fit (run_of a e ∷ [])) (decimal_digit n few)
        ∙ one_digit_test (run_of a e) n
        ∙ ap (has_digit (run_of a e)) same
        ∙ run_digits a e n rises digit (omega arith)
    by (inr many) =
        let none : (nat_le a n && nat_le n e) ≡ false = grind (arith, nat_tests) in
        more_digits [] (run_of a e) n many small ∙ ap (λ (t : Bool). t && has_digit (run_of a e) (n % 10)) (no_front n many small) ∙ sym none

-- a number of one digit, and those that follow it
block_first : (a b : ℕ) → a ≤ b → a < 10 → IsBlock a b (run_of a (last_digit a b) ∷ []) (last_digit a b)
block_first a b h few =
    let l = last_bounds a b h in
    let same : a % 10 ≡ a = omega arith in
    record {
      starts = omega (arith, l.0);
      ends = omega (arith, l.0, l.2);
      some = omega arith;
      runs = (run_is a (last_digit a b) (omega (arith, l.0)) l.1, tt);
      spelled = λ n small. run_alone a (last_digit a b) n (omega (arith, l.0)) l.1 small;
    }

-- a number of more digits, and those that differ from it in the last one
block_longer : (a b last : ℕ) (ss : List DigitSet) → a ≤ b → 10 ≤ a → IsBlock (a / 10) (a / 10) ss last → IsBlock a b (ss ++ (run_of (a % 10) (last_digit a b) ∷ [])) (a + (last_digit a b - a % 10))
block_longer a b last ss h many front =
    let l = last_bounds a b h in
    let e : ℕ = last_digit a b in
    let one : last ≡ a / 10 = omega (arith, front.starts, front.ends) in
    record {
      starts = omega arith;
      ends = l.2;
      some = omega (arith, length-append ss (run_of (a % 10) e ∷ []));
      runs = all_runs ss (run_of (a % 10) e) front.runs (run_is (a % 10) e l.0 l.1);
      spelled = λ n small.
          run_behind (a / 10) (a / 10) (a % 10) e a (a + (e - a % 10)) n ss small l.0 l.1 front.some many (λ _. one_front a e n l.0 l.1)
          (front.spelled (n / 10) (omega arith) ∙ ap (λ (x : ℕ). nat_le (a / 10) (n / 10) && nat_le (n / 10) x) one);
    }

-- a block of fronts, with all digits behind each
block_full : (a b last : ℕ) (ss : List DigitSet) → 0 < a → a % 10 ≡ 0 → a + 9 ≤ b → IsBlock (a / 10) ((b - 9) / 10) ss last → IsBlock a b (ss ++ (run_of 0 9 ∷ [])) (10 * last + 9)
block_full a b last ss some even room front =
    record {
      starts = omega (arith, front.starts);
      ends = omega (arith, front.ends);
      some = omega (arith, length-append ss (run_of 0 9 ∷ []));
      runs = all_runs ss (run_of 0 9) front.runs (run_is 0 9 (omega arith) (omega arith));
      spelled = λ n small.
          run_behind (a / 10) last 0 9 a (10 * last + 9) n ss small (omega arith) (omega arith) front.some (omega arith) (λ _. full_same a b last n even)
          (front.spelled (n / 10) (omega arith));
    }

-- the same, of what the program makes
is_block : (a b last end : ℕ) (ss sets : List DigitSet) → sets ≡ ss → end ≡ last → IsBlock a b ss last → IsBlock a b sets end
is_block a b last end ss sets e k h = subst (λ (x : List DigitSet). IsBlock a b x end) (sym e) (subst (λ (x : ℕ). IsBlock a b ss x) (sym k) h)

pub first_is : (a b end : ℕ) (sets : List DigitSet) → a ≤ b → a < 10 → end ≡ last_digit a b → sets ≡ [] ++ (run_of a end ∷ []) → IsBlock a b sets end
first_is a b end sets h few k e =
    is_block a b (last_digit a b) end (run_of a (last_digit a b) ∷ []) sets (e ∙ ap (λ (x : ℕ). run_of a x ∷ []) k) k (block_first a b h few)

pub longer_is : (a b last end : ℕ) (ss sets : List DigitSet) → a ≤ b → 10 ≤ a → IsBlock (a / 10) (a / 10) ss last → end ≡ last_digit a b → sets ≡ ss ++ (run_of (a % 10) end ∷ []) → IsBlock a b sets (a + (end - a % 10))
longer_is a b last end ss sets h many front k e =
    is_block a b (a + (last_digit a b - a % 10)) (a + (end - a % 10)) (ss ++ (run_of (a % 10) (last_digit a b) ∷ [])) sets (e ∙ ap (λ (x : ℕ). ss ++ (run_of (a % 10) x ∷ [])) k)
    (ap (λ (x : ℕ). a + (x - a % 10)) k) (block_longer a b last ss h many front)

pub full_is : (a b last : ℕ) (ss sets : List DigitSet) → 0 < a → a % 10 ≡ 0 → a + 9 ≤ b → IsBlock (a / 10) ((b - 9) / 10) ss last → sets ≡ ss ++ (run_of 0 9 ∷ []) → IsBlock a b sets (10 * last + 9)
full_is a b last ss sets some even room front e = is_block a b (10 * last + 9) (10 * last + 9) (ss ++ (run_of 0 9 ∷ [])) sets e refl (block_full a b last ss some even room front)

-- ---- a block is a word

all_sets : (ss : List DigitSet) → AllByRecursion IsRun ss → AllByRecursion IsDigitSet ss
all_sets [] h = tt
all_sets (s ∷ ss) h = (run_set s h.0, all_sets ss h.1)

pub block_word : (a b last : ℕ) (ss : List DigitSet) → b < 2 ^ 32 → IsBlock a b ss last → IsDigitWord (Digits ss)
block_word a b last ss small h =
    let few : a < 2 ^ 32 = omega (arith, h.starts, h.ends) in
    let first : digits_fit ss (decimal a) ≡ true = h.spelled a few ∙ and_from (nat_le a a) (nat_le a last) (le-leb a a (omega arith)) (le-leb a last h.starts) in
    let count : length (decimal a) ≡ length ss = fit_length ss (decimal a) first in
    let ten : length (decimal a) ≤ 10 = length-decimal-le 10 a (omega arith) (omega arith) (omega arith) in
    (h.some, omega (arith, count, ten), all_sets ss h.runs)
