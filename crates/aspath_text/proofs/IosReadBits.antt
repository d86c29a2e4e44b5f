-- The bits of a class are its digits.
use Rattle.std.proofs.Common.{◌≡◌, refl, sym, ap, ◌∙◌, ℕ, zero, suc, ◌+◌, ◌-◌, ◌^◌, ◌<◌, ◌≤◌, max, Bool, true, false, nat_le, ◌&&◌, ◌||◌, List, [], ◌∷◌, arith, inl, inr, ◌⊎◌}
use Rattle.std.specs.Prelude.{◌==◌}
use Rattle.std.specs.Int.{bit_at}
use Rattle.std.specs.Int.Bits.{bit_or}
use Rattle.std.specs.List.{list_any, AllByRecursion}
use Rattle.std.proofs.Math.Bool.{or_assoc, or-false}
use Rattle.std.proofs.Math.Pow.{pow_mono, pow_pos}
use Rattle.std.proofs.lemmas.Bool.{cases_lt, le-leb, lt-leb, eqb-true, eq-eqb}
use Rattle.std.proofs.lemmas.Nat.{or_lt}
use Rattle.std.proofs.lemmas.Nat.Bits.{bit_at_or, bit_at-lt, bit_at-zero, bit_at_mask_inside, bit_at_mask_above, bit_at_mask_below, same_from_bits_below}
use Rattle.aspath_text.specs.IosGrammar.{DigitRun, IsSetOf}
use Rattle.path_patterns.specs.declared.pattern.DigitSet.{DigitSet}

-- the digit of a number is in it
abbrev pub bit_is : ℕ → ℕ → Bool
bit_is v d = bit_at v d == 1

-- the digit lies in the run
abbrev pub in_run : DigitRun → ℕ → Bool
in_run r d = nat_le r.least d && nat_le d r.most

-- the bits of a run
abbrev pub run_bits : DigitRun → ℕ
run_bits r = 2 ^ (r.most + 1) - 2 ^ r.least

-- the bits of runs, and of those before them
abbrev pub all_bits : ℕ → List DigitRun → ℕ
all_bits v [] = v
all_bits v (r ∷ rs) = all_bits (bit_or v (run_bits r)) rs

-- ---- one run

either_none : (a b : ℕ) → a ≡ 0 → (max a b == 1) ≡ (a == 1 || b == 1)
either_none a b e = let k : max a b ≡ b = omega arith in rw (k, e) refl

either_one : (a b : ℕ) → a ≡ 1 → b < 2 → (max a b == 1) ≡ (a == 1 || b == 1)
either_one a b e h = let k : max a b ≡ 1 = omega arith in rw (k, e) refl

either : (a b : ℕ) → a < 2 → b < 2 → (a < 1) ⊎ (1 ≤ a) → (max a b == 1) ≡ (a == 1 || b == 1)
either a b ha hb (inl l) = either_none a b (omega arith)
either a b ha hb (inr g) = either_one a b (omega arith) hb

or_bit : (v m d : ℕ) → bit_is (bit_or v m) d ≡ (bit_is v d || bit_is m d)
or_bit v m d = ap (λ (x : ℕ). x == 1) (bit_at_or v m d) ∙ either (bit_at v d) (bit_at m d) (bit_at-lt v d) (bit_at-lt m d) (cases_lt (bit_at v d) 1)

from_test : (n : ℕ) (a b : Bool) → n ≡ 0 → (a && b) ≡ false → (n == 1) ≡ (a && b)
from_test n a b e f = ap (λ (x : ℕ). x == 1) e ∙ sym f

and_false : (a b : Bool) → b ≡ false → (a && b) ≡ false
and_false true b e = e
and_false false b e = refl

within : (l m d : ℕ) → l ≤ d → d ≤ m → (nat_le l d && nat_le d m) ≡ true
within l m d h k = rw (le-leb l d h, le-leb d m k) refl

run_bit_cases : (l m d : ℕ) → (d < l) ⊎ (l ≤ d) → (m < d) ⊎ (d ≤ m) → bit_is (2 ^ (m + 1) - 2 ^ l) d ≡ (nat_le l d && nat_le d m)
run_bit_cases l m d (inl h) k = from_test (bit_at (2 ^ (m + 1) - 2 ^ l) d) (nat_le l d) (nat_le d m) (bit_at_mask_below l (m + 1) d h) (rw (lt-leb l d h) refl)
run_bit_cases l m d (inr h) (inl k) = from_test (bit_at (2 ^ (m + 1) - 2 ^ l) d) (nat_le l d) (nat_le d m) (bit_at_mask_above l (m + 1) d (omega arith)) (and_false (nat_le l d) (nat_le d m) (lt-leb d m k))
run_bit_cases l m d (inr h) (inr k) = ap (λ (x : ℕ). x == 1) (bit_at_mask_inside l (m + 1) d h (omega arith)) ∙ sym (within l m d h k)

run_bit : (r : DigitRun) (d : ℕ) → bit_is (run_bits r) d ≡ in_run r d
run_bit r d = run_bit_cases r.least r.most d (cases_lt d r.least) (cases_lt r.most d)

-- the bits of a run are those of ten digits
pub run_small : (r : DigitRun) → r.most ≤ 9 → run_bits r < 1024
run_small r h =
    let k : r.most + 1 ≤ 10 = omega arith in
    let p : 2 ^ (r.most + 1) ≤ 2 ^ 10 = pow_mono k in
    let q : 1 ≤ 2 ^ r.least = pow_pos r.least in
    omega (arith, p, q)

-- ---- all runs

-- each run is within the ten digits
abbrev pub AreDigits : List DigitRun → Type 0
AreDigits runs = AllByRecursion (λ r. (r.least ≤ r.most) × (r.most ≤ 9)) runs

-- the bits are those of ten digits
pub all_small : (v : ℕ) (runs : List DigitRun) → v < 1024 → AreDigits runs → all_bits v runs < 1024
all_small v [] small h = small
all_small v (r ∷ rs) small h = all_small (bit_or v (run_bits r)) rs (or_lt 10 v (run_bits r) small (run_small r h.0.1)) h.1

-- a digit is in it where it lies in a run, or was in it before
pub all_bit : (v : ℕ) (runs : List DigitRun) (d : ℕ) → bit_is (all_bits v runs) d ≡ (bit_is v d || list_any (λ r. in_run r d) runs)
all_bit v [] d = sym (or-false (bit_is v d))
all_bit v (r ∷ rs) d =
    all_bit (bit_or v (run_bits r)) rs d
    ∙ ap (λ (t : Bool). t || list_any (λ q. in_run q d) rs) (or_bit v (run_bits r) d ∙ ap (λ (t : Bool). bit_is v d || t) (run_bit r d))
    ∙ or_assoc (bit_is v d) (in_run r d) (list_any (λ q. in_run q d) rs)

-- the bits of runs are their set
pub is_set_of : (runs : List DigitRun) → AreDigits runs → IsSetOf (record { 0 = all_bits 0 runs }) runs
is_set_of runs h = (all_small 0 runs (omega arith) h, λ d k. all_bit 0 runs d ∙ ap (λ (t : Bool). t || list_any (λ q. in_run q d) runs) (ap (λ (x : ℕ). x == 1) (bit_at-zero d)))

same_bit : (a b : ℕ) → a < 2 → b < 2 → (a == 1) ≡ (b == 1) → (a < 1) ⊎ (1 ≤ a) → (b < 1) ⊎ (1 ≤ b) → a ≡ b
same_bit a b ha hb e (inl l) (inl k) = omega arith
same_bit a b ha hb e (inr l) (inr k) = omega arith
same_bit a b ha hb e (inl l) (inr k) = let u : b ≡ 1 = omega arith in absurd (omega (arith, eqb-true a 1 (e ∙ eq-eqb b 1 u)))
same_bit a b ha hb e (inr l) (inl k) = let u : a ≡ 1 = omega arith in absurd (omega (arith, eqb-true b 1 (sym e ∙ eq-eqb a 1 u)))

-- a set of runs is their bits
pub set_of_is : (s : DigitSet) (runs : List DigitRun) → AreDigits runs → IsSetOf s runs → all_bits 0 runs ≡ s.0
set_of_is s runs h is =
    let mine = is_set_of runs h in
    same_from_bits_below 10 (all_bits 0 runs) s.0 mine.0 is.0
    (λ (d : ℕ) (k : d < 10). same_bit (bit_at (all_bits 0 runs) d) (bit_at s.0 d) (bit_at-lt (all_bits 0 runs) d) (bit_at-lt s.0 d) (mine.1 d (omega arith) ∙ sym (is.1 d (omega arith))) (cases_lt (bit_at (all_bits 0 runs) d) 1) (cases_lt (bit_at s.0 d) 1))

-- a set of one digit or more isn't empty
pub some_bit : (v d : ℕ) → bit_is v d ≡ true → 1 ≤ v
some_bit zero d e = absurd (let k = eqb-true (bit_at 0 d) 1 e in omega (arith, k, bit_at-zero d))
some_bit (suc v) d e = omega arith
