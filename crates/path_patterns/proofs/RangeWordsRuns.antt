-- The digits of a run, as a set.
use Rattle.std.proofs.Common.{◌≡◌, refl, sym, subst, ◌∙◌, ℕ, ◌+◌, ◌-◌, ◌*◌, ◌/◌, ◌%◌, ◌^◌, ◌≤◌, Bool, true, false, cond, ◌&&◌, nat_le, nat_lt, arith}
use Rattle.std.proofs.lemmas.Bool.{agree_below_at, and_parts, leb-true, le-leb, ltb-true, eqb-true}
use Rattle.std.specs.Prelude.{◌==◌}
use Rattle.path_patterns.specs.Shape.{IsDigitSet}
use Rattle.path_patterns.specs.PathItems.{has_digit}
use Rattle.path_patterns.specs.RangeWords.{run_of, IsRun}
use Rattle.path_patterns.specs.declared.pattern.DigitSet.{DigitSet}

-- three digits as one number, to go through all of them
abbrev has_at : ℕ → Bool
has_at k = cond (nat_le (k / 100) (k / 10 % 10)) (has_digit (run_of (k / 100) (k / 10 % 10)) (k % 10)) false

abbrev lies_at : ℕ → Bool
lies_at k = cond (nat_le (k / 100) (k / 10 % 10)) (nat_le (k / 100) (k % 10) && nat_le (k % 10) (k / 10 % 10)) false

-- a run has just the digits that lie in it
pub run_digits : (d e x : ℕ) → d ≤ e → e ≤ 9 → x ≤ 9 → has_digit (run_of d e) x ≡ (nat_le d x && nat_le x e)
run_digits d e x rises digit few =
    let k : ℕ = 100 * d + (10 * e + x) in
    let p : k / 100 ≡ d = omega arith in
    let q : k / 10 % 10 ≡ e = omega arith in
    let r : k % 10 ≡ x = omega arith in
    let t : nat_le d e ≡ true = le-leb d e rises in
    let same : has_at k ≡ lies_at k = agree_below_at has_at lies_at 1000 k refl (omega arith) in
    let left : has_at k ≡ has_digit (run_of d e) x = rw (p, q, r, t) refl in
    let right : lies_at k ≡ (nat_le d x && nat_le x e) = rw (p, q, r, t) refl in
    sym left ∙ same ∙ right

abbrev good_at : ℕ → Bool
good_at k = cond (nat_le (k / 10) (k % 10)) (nat_le 1 (run_of (k / 10) (k % 10)).0 && nat_lt (run_of (k / 10) (k % 10)).0 1024) true

run_good : (d e : ℕ) → d ≤ e → e ≤ 9 → (nat_le 1 (run_of d e).0 && nat_lt (run_of d e).0 1024) ≡ true
run_good d e rises digit =
    let k : ℕ = 10 * d + e in
    let p : k / 10 ≡ d = omega arith in
    let q : k % 10 ≡ e = omega arith in
    let t : nat_le d e ≡ true = le-leb d e rises in
    let good : good_at k ≡ true = agree_below_at good_at (λ x. true) 100 k refl (omega arith) in
    let left : good_at k ≡ (nat_le 1 (run_of d e).0 && nat_lt (run_of d e).0 1024) = rw (p, q, t) refl in
    sym left ∙ good

-- a run is a set of digits
pub run_set : (s : DigitSet) → IsRun s → IsDigitSet s
run_set s h =
    let p = and_parts (nat_le 1 (run_of h.first h.last).0) (nat_lt (run_of h.first h.last).0 1024) (run_good h.first h.last h.rises h.digit) in
    subst IsDigitSet (sym h.is) (leb-true 1 (run_of h.first h.last).0 p.0, ltb-true (run_of h.first h.last).0 1024 p.1)

pub run_is : (d e : ℕ) → d ≤ e → e ≤ 9 → IsRun (run_of d e)
run_is d e rises digit = record { first = d; last = e; rises = rises; digit = digit; is = refl }

-- the run, as the program shifts bits
abbrev shifted_at : ℕ → Bool
shifted_at k = cond (nat_le (k / 10) (k % 10)) (nat_le (1 * 2 ^ (k / 10) % 65536) (2 * 2 ^ (k % 10) % 65536) && ((2 * 2 ^ (k % 10) % 65536 - 1 * 2 ^ (k / 10) % 65536) == (run_of (k / 10) (k % 10)).0)) true

pub run_shifted : (d e : ℕ) → d ≤ e → e ≤ 9 → (1 * 2 ^ d % 65536 ≤ 2 * 2 ^ e % 65536) × (2 * 2 ^ e % 65536 - 1 * 2 ^ d % 65536 ≡ (run_of d e).0)
run_shifted d e rises digit =
    let k : ℕ = 10 * d + e in
    let p : k / 10 ≡ d = omega arith in
    let q : k % 10 ≡ e = omega arith in
    let t : nat_le d e ≡ true = le-leb d e rises in
    let good : shifted_at k ≡ true = agree_below_at shifted_at (λ x. true) 100 k refl (omega arith) in
    let left : shifted_at k ≡ (nat_le (1 * 2 ^ d % 65536) (2 * 2 ^ e % 65536) && ((2 * 2 ^ e % 65536 - 1 * 2 ^ d % 65536) == (run_of d e).0)) = rw (p, q, t) refl in
    let both = and_parts (nat_le (1 * 2 ^ d % 65536) (2 * 2 ^ e % 65536)) ((2 * 2 ^ e % 65536 - 1 * 2 ^ d % 65536) == (run_of d e).0) (sym left ∙ good) in
    (leb-true (1 * 2 ^ d % 65536) (2 * 2 ^ e % 65536) both.0, eqb-true (2 * 2 ^ e % 65536 - 1 * 2 ^ d % 65536) (run_of d e).0 both.1)
