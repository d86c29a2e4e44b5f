-- One more condition or literal of a guard.
use Rattle.std.proofs.Common.{◌≡◌, refl, ◌∙◌, Bool, true, false, ◌||◌, List, [], ◌∷◌, ◌++◌, arith}
use Rattle.std.proofs.lemmas.Bool.Decides.{nat_tests}
use Rattle.std.specs.List.{IsDistinct, list_any}
use Rattle.junos_plans.specs.Fits.{same_kind}
use Rattle.junos_plans.specs.declared.condition.PlannedCondition.{PlannedCondition}
use Rattle.junos_plans.proofs.FitLaws.{all_with}

or_parts : (a b : Bool) → (a || b) ≡ false → (a ≡ false) × (b ≡ false)
or_parts false b e = (refl, e)
or_parts true b e = absurd cc

module _ {A : Type 0} (same : A → A → Bool) (flips : (x y : A) → same x y ≡ same y x) where
  distinct_with : (xs : List A) (y : A) → IsDistinct same xs → list_any (same y) xs ≡ false → IsDistinct same (xs ++ y ∷ [])
  unfolding IsDistinct
  distinct_with [] y h none = (tt, tt)
  distinct_with (x ∷ xs) y h none =
      let parts = or_parts (same y x) (list_any (same y) xs) none in
      (all_with (λ z. same x z ≡ false) xs y h.0 (flips x y ∙ parts.0), distinct_with xs y h.1 parts.1)

kinds_flip : (c d : PlannedCondition) → same_kind c d ≡ same_kind d c
kinds_flip c d = grind (arith, nat_tests)

pub different_with : (cs : List PlannedCondition) (c : PlannedCondition) → IsDistinct same_kind cs → list_any (same_kind c) cs ≡ false → IsDistinct same_kind (cs ++ c ∷ [])
different_with cs c h none = distinct_with same_kind kinds_flip cs c h none
