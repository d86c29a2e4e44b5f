-- Paths that stand backwards while numbers are put before them.
use Rattle.std.proofs.Common.{◌≡◌, refl, ap, ◌∙◌, ℕ, zero, suc, ◌-◌, ◌<◌, List, [], ◌∷◌, ◌++◌, reverse, arith}
use Rattle.std.proofs.lemmas.List.{reverse-append}
use Rattle.rpl_effects.specs.Changes.{repeated_before}

pub repeated_inside : (n k : ℕ) (path : List ℕ) → repeated_before n k (n ∷ path) ≡ n ∷ repeated_before n k path
unfolding repeated_before
repeated_inside n zero path = refl
repeated_inside n (suc k) path = ap (λ (ns : List ℕ). n ∷ ns) (repeated_inside n k path)

pushed_at : (n left : ℕ) (old : List ℕ) → 0 < left → repeated_before n (left - 1) (reverse (old ++ (n ∷ []))) ≡ repeated_before n left (reverse old)
unfolding repeated_before
pushed_at n zero old h = absurd (omega arith)
pushed_at n (suc k) old h =
    ap (λ (ns : List ℕ). repeated_before n (suc k - 1) ns) (reverse-append old (n ∷ []))
    ∙ ap (λ (m : ℕ). repeated_before n m (n ∷ reverse old)) (less k)
    ∙ repeated_inside n k (reverse old)
  where
    less : (k : ℕ) → suc k - 1 ≡ k
    less k = omega arith

-- one more number at the far end
pub one_pushed : (n left : ℕ) (old new all : List ℕ) → 0 < left → new ≡ old ++ (n ∷ []) → repeated_before n left (reverse old) ≡ all → repeated_before n (left - 1) (reverse new) ≡ all
one_pushed n left old new all h e so_far = ap (λ (ns : List ℕ). repeated_before n (left - 1) (reverse ns)) e ∙ pushed_at n left old h ∙ so_far
