-- What is told by flags at places, behind one more that is set.
use Rattle.std.proofs.Common.{◌≡◌, sym, refl, ℕ, ◌<◌, Bool, true, false, ◌||◌, List, length, get_or, inl, inr, arith}
use Rattle.std.specs.Prelude.{◌==◌, set}
use Rattle.std.proofs.lemmas.Bool.{cases_order, eq-eqb, ne_eqb}
use Rattle.std.proofs.lemmas.Grind.{get_or-set_at}
use Rattle.std.proofs.lemmas.List.{get_or-set_other}

-- a flag behind one more that is set
pub flag_more : (xs : List Bool) (m k : ℕ) → m < length xs → get_or (set xs m true) k false ≡ ((k == m) || get_or xs k false)
flag_more xs m k h =
    elim (cases_order m k) [
      | inl same ↦ rw (get_or-set_at xs m k true false (sym same) h, eq-eqb k m (sym same)) refl
      | inr apart ↦ elim apart [
        | inl lt ↦ rw (get_or-set_other xs m k true false (λ e. absurd (omega arith)), ne_eqb k m (λ e. absurd (omega arith))) refl
        | inr gt ↦ rw (get_or-set_other xs m k true false (λ e. absurd (omega arith)), ne_eqb k m (λ e. absurd (omega arith))) refl
      ]
    ]
