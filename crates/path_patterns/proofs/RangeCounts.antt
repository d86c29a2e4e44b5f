-- Counts that end at 2^64 - 1 give the counts that end there.
use Rattle.std.proofs.Common.{◌≡◌, refl, sym, ap, ◌∙◌, ℕ, zero, suc, ◌+◌, ◌-◌, ◌*◌, ◌^◌, ◌<◌, ◌≤◌, Bool, true, false, nat_le, min, List, [], ◌∷◌, length, arith}
use Rattle.std.proofs.Math.Nat.{mul-le-mul_right, le-mul_of_pos_right}
use Rattle.std.proofs.lemmas.Bool.Decides.{nat_tests}
use Rattle.std.specs.Prelude.{◌==◌}
use Rattle.path_patterns.specs.DigitRanges.{chosen, runs, all_digits}
use Rattle.path_patterns.specs.RangeCounts.{ranges_with, ranges_behind, capped}
use Rattle.path_patterns.specs.declared.pattern.DigitSet.{DigitSet}

capped_both : (m x y : ℕ) → m ≤ x → m ≤ y → min x m ≡ min y m
capped_both m x y l k = omega (arith, l, k)

times_by : (t : Bool) (m a b : ℕ) → nat_le a m ≡ t → min (min a m * b) m ≡ min (a * b) m
times_by true m a b e =
    let k : min a m ≡ a = grind (arith, nat_tests) in
    ap (λ (x : ℕ). min (x * b) m) k
times_by false m a zero e = omega arith
times_by false m a (suc b) e =
    let k : min a m ≡ m = grind (arith, nat_tests) in
    let l : m ≤ a = grind (arith, nat_tests) in
    let p : m ≤ m * suc b = le-mul_of_pos_right m (omega arith) in
    let q : m * suc b ≤ a * suc b = mul-le-mul_right (suc b) l in
    ap (λ (x : ℕ). min (x * suc b) m) k ∙ capped_both m (m * suc b) (a * suc b) p (omega (arith, p, q))

-- a product of a count
capped_times : (a b : ℕ) → capped (capped a * b) ≡ capped (a * b)
capped_times a b = times_by (nat_le a (2 ^ 64 - 1)) (2 ^ 64 - 1) a b refl

with_by : (t : Bool) (a b r : ℕ) → capped (elim t [ true ↦ capped b | false ↦ capped a * r ]) ≡ capped (elim t [ true ↦ b | false ↦ a * r ])
with_by true a b r = omega arith
with_by false a b r = capped_times a r

-- the ranges behind counts
capped_behind : (ss : List DigitSet) (a b : ℕ) → capped (ranges_behind (capped a) (capped b) ss) ≡ capped (ranges_behind a b ss)
unfolding ranges_behind
capped_behind [] a b = omega arith
capped_behind (s ∷ ss) a b =
    let d : ℕ = length (chosen s all_digits) in
    sym (capped_behind ss (capped a * d) (ranges_with s (capped a) (capped b)))
    ∙ ap (λ (x : ℕ). capped (ranges_behind x (capped (ranges_with s (capped a) (capped b))) ss)) (capped_times a d)
    ∙ ap (λ (x : ℕ). capped (ranges_behind (capped (a * d)) x ss)) (with_by (s.0 == 1023) a b (length (runs s all_digits)))
    ∙ capped_behind ss (a * d) (ranges_with s a b)

-- one more digit
pub step_is : (s : DigitSet) (a b m k : ℕ) (rest : List DigitSet) → m ≡ capped (a * length (chosen s all_digits)) → k ≡ capped (ranges_with s a b) → capped (ranges_behind m k rest) ≡ capped (ranges_behind a b (s ∷ rest))
unfolding ranges_behind
step_is s a b m k rest e f =
    ap (λ (x : ℕ). capped (ranges_behind x k rest)) e
    ∙ ap (λ (x : ℕ). capped (ranges_behind (capped (a * length (chosen s all_digits))) x rest)) f
    ∙ capped_behind rest (a * length (chosen s all_digits)) (ranges_with s a b)
