-- The text of a set that is a run of digits spells the set.
use Rattle.std.proofs.Common.{◌≡◌, refl, sym, ap, ap₂, subst, ◌∙◌, ℕ, ◌+◌, ◌*◌, ◌/◌, ◌%◌, ◌^◌, ◌≤◌, ◌==◌, Bool, true, false, cond, ◌&&◌, nat_le, List, [], ◌∷◌, arith, inl, inr}
use Rattle.std.proofs.Math.Bool.{or-false}
use Rattle.std.proofs.lemmas.Bool.{agree_below, agree_below_at, and_parts, le-leb, eqb-true}
use Rattle.aspath_text.specs.IosGrammar.{SpellsClass, SpellsDigitSet}
use Rattle.aspath_text.specs.IosText.{first_in, least_digit, greatest_digit, run_text, digit_set_text}
use Rattle.path_patterns.specs.RangeWords.{run_of, IsRun}
use Rattle.path_patterns.specs.declared.pattern.DigitSet.{DigitSet}
use Rattle.path_patterns.proofs.RangeWordsRuns.{run_digits, run_set, run_is}

-- ---- the ends of a run

-- two digits as one number, to go through all of them
abbrev ends_at : ℕ → Bool
ends_at k = cond (nat_le (k / 10) (k % 10)) ((least_digit (run_of (k / 10) (k % 10)) == k / 10) && (greatest_digit (run_of (k / 10) (k % 10)) == k % 10)) true

ends_test : agree_below ends_at (λ k. true) 100 ≡ true
unfolding first_in
ends_test = refl

run_ends : (d e : ℕ) → d ≤ e → e ≤ 9 → (least_digit (run_of d e) ≡ d) × (greatest_digit (run_of d e) ≡ e)
run_ends d e rises digit =
    let k : ℕ = 10 * d + e in
    let p : k / 10 ≡ d = omega arith in
    let q : k % 10 ≡ e = omega arith in
    let t : nat_le d e ≡ true = le-leb d e rises in
    let left : ends_at k ≡ ((least_digit (run_of d e) == d) && (greatest_digit (run_of d e) == e)) = rw (p, q, t) refl in
    let both = and_parts (least_digit (run_of d e) == d) (greatest_digit (run_of d e) == e) (sym left ∙ agree_below_at ends_at (λ k. true) 100 k ends_test (omega arith)) in
    (eqb-true (least_digit (run_of d e)) d both.0, eqb-true (greatest_digit (run_of d e)) e both.1)

one_is : (d : ℕ) → d ≤ 9 → (run_of d d).0 ≡ 2 ^ d
one_is d h = eqb-true ((run_of d d).0) (2 ^ d) (agree_below_at (λ k. (run_of k k).0 == 2 ^ k) (λ k. true) 10 d refl (omega arith))

-- ---- the text

class_spelled : (d e : ℕ) → d ≤ e → e ≤ 9 → SpellsClass (91 ∷ (48 + d) ∷ 45 ∷ (48 + e) ∷ 93 ∷ []) (run_of d e)
class_spelled d e rises digit = record {
  runs = record { least = d; most = e } ∷ [];
  parts = ((48 + d) ∷ 45 ∷ (48 + e) ∷ []) ∷ [];
  spelled = refl;
  each = (record { rises = rises; digit = digit; spelled = inr refl }, tt);
  some = omega arith;
  is = ((run_set (run_of d e) (run_is d e rises digit)).1, λ x h. run_digits d e x rises digit h ∙ sym (or-false (nat_le d x && nat_le x e)));
}

text_at : (t : Bool) (d e : ℕ) → (d == e) ≡ t → d ≤ e → e ≤ 9 → SpellsDigitSet (cond t ((48 + d) ∷ []) (91 ∷ (48 + d) ∷ 45 ∷ (48 + e) ∷ 93 ∷ [])) (run_of d e)
text_at true d e q rises digit =
    let same : d ≡ e = eqb-true d e q in
    inl (d, omega arith, refl, ap (λ (x : ℕ). (run_of d x).0) (sym same) ∙ one_is d (omega arith))
text_at false d e q rises digit = inr (class_spelled d e rises digit)

run_spelled : (d e : ℕ) → d ≤ e → e ≤ 9 → SpellsDigitSet (digit_set_text (run_of d e)) (run_of d e)
run_spelled d e rises digit =
    let r = run_ends d e rises digit in
    subst (λ (text : List ℕ). SpellsDigitSet text (run_of d e)) (sym (ap₂ run_text r.0 r.1)) (text_at (d == e) d e refl rises digit)

-- the text of a set that is a run spells it
pub digit_set_spelled : (s : DigitSet) → IsRun s → SpellsDigitSet (digit_set_text s) s
digit_set_spelled s h = subst (λ (x : DigitSet). SpellsDigitSet (digit_set_text x) x) (sym h.is) (run_spelled h.first h.last h.rises h.digit)
