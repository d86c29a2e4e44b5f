-- Ranges that are spread hold the numbers whose front they held, and whose last digit is in the set.
use Rattle.std.proofs.Common.{◌≡◌, refl, sym, ap, ◌∙◌, ℕ, zero, suc, ◌+◌, ◌-◌, ◌*◌, ◌/◌, ◌%◌, ◌^◌, ◌<◌, ◌≤◌, Bool, true, false, ◌&&◌, ◌||◌, nat_le, nat_lt, min, List, [], ◌∷◌, arith}
use Rattle.std.specs.Prelude.{◌==◌}
use Rattle.std.proofs.Math.Bool.{and_assoc, and-true, and-false, and-or_distrib_left, and-or_distrib_right}
use Rattle.std.proofs.lemmas.Bool.{eqb-true, agree_below_at}
use Rattle.std.proofs.lemmas.Bool.Decides.{nat_tests}
use Rattle.std.proofs.lemmas.List.Folds.{list_any-append}
use Rattle.path_patterns.specs.Items.{in_range, greatest}
use Rattle.path_patterns.specs.PathItems.{has_digit}
use Rattle.path_patterns.specs.MergedRanges.{joined}
use Rattle.path_patterns.specs.DigitRanges.{between, within, runs, all_digits, one_spread, each_spread, greatest_front, range_spread, all_spread}
use Rattle.path_patterns.specs.declared.items.NumberRange.{NumberRange}
use Rattle.path_patterns.specs.declared.pattern.DigitSet.{DigitSet}
use Rattle.path_patterns.proofs.MergedLaws.{in_ranges, joined_holds}
use Rattle.path_patterns.proofs.DigitRangesJoined.{all_runs_hold}

within_test : (t : Bool) (a b n : ℕ) → n < 2 ^ 32 → nat_le a greatest ≡ t
    → in_ranges (elim t [ true ↦ between a (min b greatest) ∷ [] | false ↦ [] ]) n ≡ (nat_le a n && nat_le n b)
within_test true a b n small e = grind (arith, nat_tests)
within_test false a b n small e = grind (arith, nat_tests)

within_holds : (a b n : ℕ) → n < 2 ^ 32 → in_ranges (within a b) n ≡ (nat_le a n && nat_le n b)
within_holds a b n small = within_test (nat_le a greatest) a b n small refl

-- ---- one number, and digits behind it

moved : (a l m n : ℕ) → (nat_le (10 * a + l) n && nat_le n (10 * a + m)) ≡ (nat_le (10 * a) n && (nat_le l (n - 10 * a) && nat_le (n - 10 * a) m))
moved a l m n = grind (arith, nat_tests)

one_spread_moved : (a : ℕ) (rs : List NumberRange) (n : ℕ) → n < 2 ^ 32 → in_ranges (one_spread a rs) n ≡ (nat_le (10 * a) n && in_ranges rs (n - 10 * a))
unfolding one_spread
one_spread_moved a [] n small = sym (and-false (nat_le (10 * a) n))
one_spread_moved a (r ∷ rs) n small =
    list_any-append (λ q. in_range q n) (within (10 * a + r.least) (10 * a + r.most)) (one_spread a rs)
    ∙ ap (λ (b : Bool). b || in_ranges (one_spread a rs) n) (within_holds (10 * a + r.least) (10 * a + r.most) n small ∙ moved a r.least r.most n)
    ∙ ap (λ (b : Bool). (nat_le (10 * a) n && in_range r (n - 10 * a)) || b) (one_spread_moved a rs n small)
    ∙ sym (and-or_distrib_left (nat_le (10 * a) n) (in_range r (n - 10 * a)) (in_ranges rs (n - 10 * a)))

last_digit : (a n : ℕ) (h : ℕ → Bool) → (nat_le (10 * a) n && (nat_le (n - 10 * a) 9 && h (n - 10 * a))) ≡ ((n / 10 == a) && h (n % 10))
last_digit a n h = last (n / 10 == a) refl
  where
    last : (t : Bool) → (n / 10 == a) ≡ t → (nat_le (10 * a) n && (nat_le (n - 10 * a) 9 && h (n - 10 * a))) ≡ ((n / 10 == a) && h (n % 10))
    last true e =
        let k : n / 10 ≡ a = eqb-true (n / 10) a e in
        let d : n - 10 * a ≡ n % 10 = omega arith in
        let p : nat_le (10 * a) n ≡ true = grind (arith, nat_tests) in
        let q : nat_le (n % 10) 9 ≡ true = grind (arith, nat_tests) in
        rw (e, p, d, q) refl
    last false e =
        let p : (nat_le (10 * a) n && nat_le (n - 10 * a) 9) ≡ false = grind (arith, nat_tests) in
        sym (and_assoc (nat_le (10 * a) n) (nat_le (n - 10 * a) 9) (h (n - 10 * a)))
        ∙ ap (λ (b : Bool). b && h (n - 10 * a)) p ∙ sym (ap (λ (b : Bool). b && h (n % 10)) e)

-- a number with a digit of the set behind it
one_spread_holds : (s : DigitSet) (a n : ℕ) → n < 2 ^ 32 → in_ranges (one_spread a (runs s all_digits)) n ≡ ((n / 10 == a) && has_digit s (n % 10))
one_spread_holds s a n small =
    one_spread_moved a (runs s all_digits) n small
    ∙ ap (λ (b : Bool). nat_le (10 * a) n && b) (all_runs_hold s (n - 10 * a))
    ∙ last_digit a n (has_digit s)

-- ---- numbers one after the other

next_number : (k a q : ℕ) → ((q == a) || (nat_le (a + 1) q && nat_lt q (a + 1 + k))) ≡ (nat_le a q && nat_lt q (a + suc k))
next_number k a q = grind (arith, nat_tests)

no_number : (a q : ℕ) → (nat_le a q && nat_lt q (a + 0)) ≡ false
no_number a q = grind (arith, nat_tests)

each_spread_holds : (s : DigitSet) (n : ℕ) → n < 2 ^ 32 → (k a : ℕ) → in_ranges (each_spread k a (runs s all_digits)) n ≡ ((nat_le a (n / 10) && nat_lt (n / 10) (a + k)) && has_digit s (n % 10))
unfolding each_spread
each_spread_holds s n small zero a = sym (ap (λ (b : Bool). b && has_digit s (n % 10)) (no_number a (n / 10)))
each_spread_holds s n small (suc k) a =
    list_any-append (λ q. in_range q n) (one_spread a (runs s all_digits)) (each_spread k (a + 1) (runs s all_digits))
    ∙ ap (λ (b : Bool). b || in_ranges (each_spread k (a + 1) (runs s all_digits)) n) (one_spread_holds s a n small)
    ∙ ap (λ (b : Bool). ((n / 10 == a) && has_digit s (n % 10)) || b) (each_spread_holds s n small k (a + 1))
    ∙ sym (and-or_distrib_right (n / 10 == a) (nat_le (a + 1) (n / 10) && nat_lt (n / 10) (a + 1 + k)) (has_digit s (n % 10)))
    ∙ ap (λ (b : Bool). b && has_digit s (n % 10)) (next_number k a (n / 10))

-- ---- ranges

full_has : (s : DigitSet) (d : ℕ) → (s.0 == 1023) ≡ true → d < 10 → has_digit s d ≡ true
full_has s d e small = ap (λ (x : ℕ). (x / 2 ^ d % 2) == 1) (eqb-true s.0 1023 e) ∙ agree_below_at (λ x. (1023 / 2 ^ x % 2) == 1) (λ x. true) 10 d refl small

full_test : (a b n : ℕ) → (nat_le (10 * a) n && nat_le n (10 * b + 9)) ≡ (nat_le a (n / 10) && nat_le (n / 10) b)
full_test a b n = grind (arith, nat_tests)

up_to : (a b q : ℕ) → (nat_le a q && nat_lt q (a + (b + 1 - a))) ≡ (nat_le a q && nat_le q b)
up_to a b q = grind (arith, nat_tests)

up_to_front : (b q : ℕ) → q ≤ greatest_front → nat_le q (min b greatest_front) ≡ nat_le q b
up_to_front b q small = grind (arith, nat_tests)

range_test : (t : Bool) (s : DigitSet) (r : NumberRange) (n : ℕ) → n < 2 ^ 32 → (s.0 == 1023) ≡ t
    → in_ranges (elim t [ true ↦ within (10 * r.least) (10 * r.most + 9) | false ↦ each_spread (min r.most greatest_front + 1 - r.least) r.least (runs s all_digits) ]) n ≡ (in_range r (n / 10) && has_digit s (n % 10))
range_test true s r n small e =
    within_holds (10 * r.least) (10 * r.most + 9) n small
    ∙ full_test r.least r.most n
    ∙ sym (and-true (in_range r (n / 10)))
    ∙ ap (λ (b : Bool). in_range r (n / 10) && b) (sym (full_has s (n % 10) e (omega arith)))
range_test false s r n small e =
    each_spread_holds s n small (min r.most greatest_front + 1 - r.least) r.least
    ∙ ap (λ (b : Bool). b && has_digit s (n % 10)) (up_to r.least (min r.most greatest_front) (n / 10))
    ∙ ap (λ (b : Bool). (nat_le r.least (n / 10) && b) && has_digit s (n % 10)) (up_to_front r.most (n / 10) (omega (arith, small)))

all_spread_holds : (s : DigitSet) (rs : List NumberRange) (n : ℕ) → n < 2 ^ 32 → in_ranges (all_spread s (runs s all_digits) rs) n ≡ (in_ranges rs (n / 10) && has_digit s (n % 10))
unfolding all_spread
all_spread_holds s [] n small = refl
all_spread_holds s (r ∷ rs) n small =
    list_any-append (λ q. in_range q n) (range_spread s (runs s all_digits) r) (all_spread s (runs s all_digits) rs)
    ∙ ap (λ (b : Bool). b || in_ranges (all_spread s (runs s all_digits) rs) n) (range_test (s.0 == 1023) s r n small refl)
    ∙ ap (λ (b : Bool). (in_range r (n / 10) && has_digit s (n % 10)) || b) (all_spread_holds s rs n small)
    ∙ sym (and-or_distrib_right (in_range r (n / 10)) (in_ranges rs (n / 10)) (has_digit s (n % 10)))

-- the ranges of one more digit
pub spread_by_holds : (s : DigitSet) (rs : List NumberRange) (n : ℕ) → n < 2 ^ 32 → in_ranges (joined (all_spread s (runs s all_digits) rs)) n ≡ (in_ranges rs (n / 10) && has_digit s (n % 10))
spread_by_holds s rs n small = joined_holds (all_spread s (runs s all_digits) rs) n ∙ all_spread_holds s rs n small
