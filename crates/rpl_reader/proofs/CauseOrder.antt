-- The first cause that holds stands no further down in the table than any other that does.
use Rattle.std.proofs.Common.{◌≡◌, refl, sym, ap, ◌∙◌, ℕ, ◌≤◌, Bool, true, false, cond, ◌&&◌, nat_le, inl, inr, List, [], ◌∷◌, Option, Some, arith, leb-true, true≢false}
use Rattle.std.specs.List.{find}
use Rattle.std.proofs.lemmas.Bool.{and_parts}
use Rattle.step_search.specs.Found.{IsIn}
use Rattle.step_search.proofs.Closed.{in_at}
use Rattle.policy_text.specs.Causes.{causes, first_cause}
use Rattle.policy_text.specs.declared.fault.Cause.{Cause}
use Rattle.rpl_reader.specs.Profile.{rank}
use Rattle.rpl_reader.proofs.OneFirst.{stands}

-- the places of these causes in the table rise, from this one on
abbrev rises : ℕ → List Cause → Bool
rises n [] = true
rises n (c ∷ cs) = nat_le n (rank c) && rises (rank c) cs

above : (n : ℕ) (cs : List Cause) (d : Cause) → rises n cs ≡ true → IsIn d cs → n ≤ rank d
above n [] d e there = absurd there
above n (c ∷ cs) d e (inl is) = let p : n ≤ rank c = leb-true n (rank c) (and_parts (nat_le n (rank c)) (rises (rank c) cs) e).0 in omega (arith, ap rank is)
above n (c ∷ cs) d e (inr there) =
    let parts = and_parts (nat_le n (rank c)) (rises (rank c) cs) e in
    let p : n ≤ rank c = leb-true n (rank c) parts.0 in
    let q : rank c ≤ rank d = above (rank c) cs d parts.1 there in omega arith

-- a cause that holds is found, or one that stands before it
abbrev IsUp : (Cause → Bool) → Option Cause → Cause → Type 0
IsUp holds o d = (c : Cause) × (o ≡ Some c) × (rank c ≤ rank d)

module _ (holds : Cause → Bool) (d : Cause) (e : holds d ≡ true) where
  found_in : (n : ℕ) (cs : List Cause) → rises n cs ≡ true → IsIn d cs → IsUp holds (find holds cs) d
  found_in n [] up there = absurd there
  found_in n (c ∷ cs) up there = here (holds c) refl there (found_in (rank c) cs (and_parts (nat_le n (rank c)) (rises (rank c) cs) up).1)
    where
      here : (b : Bool) → holds c ≡ b → IsIn d (c ∷ cs) → (IsIn d cs → IsUp holds (find holds cs) d) → IsUp holds (cond b (Some c) (find holds cs)) d
      here true is (inl same) behind = (c, refl, omega (arith, ap rank same))
      here true is (inr more) behind = (c, refl, above (rank c) cs d (and_parts (nat_le n (rank c)) (rises (rank c) cs) up).1 more)
      here false is (inl same) behind = absurd (true≢false (sym e ∙ ap holds same ∙ is))
      here false is (inr more) behind = behind more

  pub first_up : IsUp holds (first_cause holds) d
  unfolding first_cause
  first_up = found_in 0 causes refl (in_at d causes (rank d) (stands d))
