-- A list in order, without its repeats, is its set.
use Rattle.std.proofs.Common.{◌≡◌, refl, sym, ap, subst, ◌∙◌, ℕ, suc, ◌≤◌, Bool, true, false, cond, List, [], ◌∷◌, arith, inl, inr}
use Rattle.std.specs.Prelude.{◌==◌}
use Rattle.std.specs.Ordering.{nat_cmp}
use Rattle.std.specs.List.{dedup}
use Rattle.std.specs.List.Sorted.{IsPermutation, IsNonDecreasingBy, IsSortedByKey}
use Rattle.std.proofs.lemmas.Bool.{cases_order, eq-eqb, ne_eqb}
use Rattle.std.proofs.lemmas.List.Sorted.{IsNonDecreasingBy-from_sort}
use Rattle.route_types.specs.Sets.{with_member_by, set_by}
use Rattle.route_types.proofs.Sets.{Order, Tells, put_before, put_behind, put_there, set_permuted}

-- no member is below the one before it
abbrev IsRising : {C : Type 0} → (C → ℕ) → List C → Type 0
IsRising number [] = Unit {0}
IsRising number (c ∷ []) = Unit {0}
IsRising number (c ∷ d ∷ ds) = (number c ≤ number d) × IsRising number (d ∷ ds)

rising : {C : Type 0} (number : C → ℕ) (cs : List C) → IsNonDecreasingBy number cs → IsRising number cs
rising number [] h = tt
rising number (c ∷ []) h = tt
rising number (c ∷ d ∷ ds) h = (h 0 1 c (omega arith) (omega arith), rising number (d ∷ ds) (λ i j e a b. h (suc i) (suc j) e (omega arith) (omega arith)))

twice_at : {C : Type 0} (number : C → ℕ) (c d : C) (ds : List C) → with_member_by number c (with_member_by number c ds) ≡ with_member_by number c ds → Order (number c) (number d)
    → with_member_by number c (with_member_by number c (d ∷ ds)) ≡ with_member_by number c (d ∷ ds)
twice_at {C} number c d ds more (inl e) = ap (λ (x : List C). with_member_by number c x) (put_there number c d ds e)
twice_at {C} number c d ds more (inr (inl l)) =
    ap (λ (x : List C). with_member_by number c x) (put_before number c d ds l) ∙ put_there number c c (d ∷ ds) refl ∙ sym (put_before number c d ds l)
twice_at {C} number c d ds more (inr (inr g)) =
    ap (λ (x : List C). with_member_by number c x) (put_behind number c d ds g) ∙ put_behind number c d (with_member_by number c ds) g
    ∙ ap (λ (x : List C). d ∷ x) more ∙ sym (put_behind number c d ds g)

put_twice : {C : Type 0} (number : C → ℕ) (c : C) (cs : List C) → with_member_by number c (with_member_by number c cs) ≡ with_member_by number c cs
put_twice number c [] = put_there number c c [] refl
put_twice number c (d ∷ ds) = twice_at number c d ds (put_twice number c ds) (cases_order (number c) (number d))

-- the test tells communities apart by their numbers
abbrev pub TellsNumbers : {C : Type 0} → (C → ℕ) → (C → C → Bool) → Type 0
TellsNumbers {C} number same = (x y : C) → same x y ≡ (number x == number y)

first_stays : {C : Type 0} (same : C → C → Bool) (k : C) (cs : List C) → (t : List C) × (dedup same (k ∷ cs) ≡ k ∷ t)
first_stays same k [] = ([], refl)
first_stays {C} same k (x ∷ xs) =
    elim (same x k) as (λ b. (t : List C) × (cond b (dedup same (k ∷ xs)) (k ∷ dedup same (x ∷ xs)) ≡ k ∷ t)) [
      | true ↦ first_stays same k xs
      | false ↦ (dedup same (x ∷ xs), refl)
    ]

dedup_step : {C : Type 0} (number : C → ℕ) → Tells number → (same : C → C → Bool) → TellsNumbers number same → (k x : C) (xs : List C) → IsRising number (k ∷ x ∷ xs)
    → (IsRising number (k ∷ xs) → dedup same (k ∷ xs) ≡ set_by number (k ∷ xs)) → dedup same (x ∷ xs) ≡ set_by number (x ∷ xs) → Order (number x) (number k)
    → dedup same (k ∷ x ∷ xs) ≡ set_by number (k ∷ x ∷ xs)
dedup_step {C} number tells same law k x xs h here behind (inl e) =
    let c : x ≡ k = tells x k e in
    ap (λ (b : Bool). cond b (dedup same (k ∷ xs)) (k ∷ dedup same (x ∷ xs))) (law x k ∙ eq-eqb (number x) (number k) e)
    ∙ here (subst (λ (z : C). IsRising number (z ∷ xs)) c h.1)
    ∙ sym (put_twice number k (set_by number xs))
    ∙ ap (λ (z : C). with_member_by number k (with_member_by number z (set_by number xs))) (sym c)
dedup_step number tells same law k x xs h here behind (inr (inl l)) = absurd (omega (arith, h.0, l))
dedup_step {C} number tells same law k x xs h here behind (inr (inr g)) =
    let f = first_stays same x xs in
    ap (λ (b : Bool). cond b (dedup same (k ∷ xs)) (k ∷ dedup same (x ∷ xs))) (law x k ∙ ne_eqb (number x) (number k) (λ (e : number x ≡ number k). omega (arith, g, e)))
    ∙ ap (λ (z : List C). k ∷ z) f.1
    ∙ sym (put_before number k x f.0 g)
    ∙ ap (λ (z : List C). with_member_by number k z) (sym f.1 ∙ behind)

dedup_rising : {C : Type 0} (number : C → ℕ) → Tells number → (same : C → C → Bool) → TellsNumbers number same → (k : C) (cs : List C) → IsRising number (k ∷ cs)
    → dedup same (k ∷ cs) ≡ set_by number (k ∷ cs)
dedup_rising number tells same law k [] h = refl
dedup_rising number tells same law k (x ∷ xs) h =
    dedup_step number tells same law k x xs h (dedup_rising number tells same law k xs) (dedup_rising number tells same law x xs h.1) (cases_order (number x) (number k))

dedup_sorted : {C : Type 0} (number : C → ℕ) → Tells number → (same : C → C → Bool) → TellsNumbers number same → (cs : List C) → IsRising number cs → dedup same cs ≡ set_by number cs
dedup_sorted number tells same law [] h = refl
dedup_sorted number tells same law (c ∷ cs) h = dedup_rising number tells same law c cs h

-- a list, sorted and without its repeats, is its set
pub dedup_is_set : {C : Type 0} (number : C → ℕ) → Tells number → (same : C → C → Bool) → TellsNumbers number same → (old sorted new : List C) → IsPermutation old sorted
    → IsSortedByKey number nat_cmp sorted → new ≡ dedup same sorted
    → new ≡ set_by number old
dedup_is_set number tells same law old sorted new moved s e =
    e ∙ dedup_sorted number tells same law sorted (rising number sorted (IsNonDecreasingBy-from_sort number sorted s)) ∙ sym (set_permuted number tells old sorted moved)
