-- The numbers of parameters of the policies of a name, with one policy more.
use Rattle.std.proofs.Common.{◌≡◌, refl, sym, ap, ◌∙◌, ℕ, Bool, true, false, ◌&&◌, ◌||◌, not, ◌==◌, List, Option, Some, arith, eqb-true}
use Rattle.std.specs.Prelude.{bytes_eq}
use Rattle.std.proofs.lemmas.Bool.Decides.{nat_tests}
use Rattle.std.proofs.lemmas.Slice.Eq.{bytes_eq-Decides}
use Rattle.rpl_facts.specs.Counts.{has_other}
use Rattle.rpl_facts.specs.declared.counts.Count.{Count}

same_way : (a b : ℕ) → (a == b) ≡ (b == a)
same_way a b = grind (arith, nat_tests)

or_true : (a : Bool) → (a || true) ≡ true
or_true true = refl
or_true false = refl

by_first : (first count n : ℕ) (b : Bool) → (first == n) ≡ b → (not (first == count) || not b) ≡ (not (count == n) || not b)
by_first first count n false e = or_true (not (first == count)) ∙ sym (or_true (not (count == n)))
by_first first count n true e = ap (λ (b : Bool). not b || false) (same_way first count ∙ ap (λ (m : ℕ). count == m) (eqb-true first n e))

pub with_more : (first count n : ℕ) (differs : Bool) → ((differs || not (first == count)) || not (first == n)) ≡ (not (count == n) || (differs || not (first == n)))
with_more first count n true = sym (or_true (not (count == n)))
with_more first count n false = by_first first count n (first == n) refl

pub with_none : (count n : ℕ) → (false || not (count == n)) ≡ (not (count == n) || false)
with_none count n = or_false (not (count == n))
  where
    or_false : (a : Bool) → a ≡ (a || false)
    or_false true = refl
    or_false false = refl

module _ (old new : List ℕ → Option Count) (name : List ℕ) (count : Count) (number : ℕ) (put : (q : List ℕ) → new q ≡ elim (bytes_eq q name) [ true ↦ Some count | false ↦ old q ])
    (is : (n : ℕ) → has_other (Some count) n ≡ (not (number == n) || has_other (old name) n)) where
  by_name : (q : List ℕ) (n : ℕ) (b : Bool) → bytes_eq q name ≡ b → has_other (elim b [ true ↦ Some count | false ↦ old q ]) n ≡ ((b && not (number == n)) || has_other (old q) n)
  by_name q n true e = is n ∙ ap (λ (x : List ℕ). not (number == n) || has_other (old x) n) (sym ((bytes_eq-Decides q name).0 e))
  by_name q n false e = refl

  pub noted : (q : List ℕ) (n : ℕ) → has_other (new q) n ≡ ((bytes_eq q name && not (number == n)) || has_other (old q) n)
  noted q n = ap (λ (o : Option Count). has_other o n) (put q) ∙ by_name q n (bytes_eq q name) refl
