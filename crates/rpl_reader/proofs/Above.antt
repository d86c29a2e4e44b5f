-- One number less of those that a parameter may be above another one.
use Rattle.std.proofs.Common.{◌≡◌, sym, ap, ◌∙◌, ℕ, zero, suc, ◌≤◌, Bool, false, ◌&&◌, ◌||◌, arith}
use Rattle.std.specs.Prelude.{nat_lt}
use Rattle.rpl_calls.specs.Parameters.{ParameterParts}
use Rattle.rpl_calls.specs.declared.given.Fact.{Fact}
use Rattle.rpl_calls.specs.declared.given.Fact.TheVariants.{Length}
use Rattle.rpl_reader.specs.Faults.{any_above}

module _ (may : ParameterParts → Fact → Bool) (p : ParameterParts) (value : ℕ) where
  pub lower : (n m : ℕ) (here total : Bool) → n ≡ suc m → here ≡ (nat_lt value m && may p (Length m)) → any_above may p value n ≡ total → (here || any_above may p value m) ≡ total
  unfolding any_above
  lower n m here total is here_is e = ap (λ (b : Bool). b || any_above may p value m) here_is ∙ sym (ap (λ (k : ℕ). any_above may p value k) is) ∙ e

  pub none_left : (n : ℕ) (total : Bool) → n ≤ 0 → any_above may p value n ≡ total → false ≡ total
  unfolding any_above
  none_left zero total few e = e
  none_left (suc n) total few e = absurd (omega (arith, few))
