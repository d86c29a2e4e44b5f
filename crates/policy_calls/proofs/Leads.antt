-- What a policy leads to is closed under calls, is the least such, and is where a walk leads; from the end backwards the
-- same leads.
use Rattle.std.proofs.Common.{◌≡◌, refl, sym, ap, ◌∙◌, subst, ℕ, Bool, true, false, ◌&&◌, ◌||◌, ◌⊎◌, inl, inr, List, [], ◌∷◌}
use Rattle.std.specs.Prelude.{bytes_eq}
use Rattle.std.proofs.lemmas.Bool.{and_parts}
use Rattle.std.proofs.lemmas.Slice.Eq.{bytes_eq-Decides}
use Rattle.policy_calls.specs.Calls.{Link, is_link, has_link, leads}

-- ---- tests

pub or_cases : (a b : Bool) → (a || b) ≡ true → (a ≡ true) ⊎ (b ≡ true)
or_cases true b e = inl refl
or_cases false b e = inr e

pub or_left : (a b : Bool) → a ≡ true → (a || b) ≡ true
or_left a b e = ap (λ (c : Bool). c || b) e

pub or_right : (a b : Bool) → b ≡ true → (a || b) ≡ true
or_right true b e = refl
or_right false b e = e

pub both : (a b : Bool) → a ≡ true → b ≡ true → (a && b) ≡ true
both a b e f = ap (λ (c : Bool). c && b) e ∙ f

pub and_turned : (a b : Bool) → (a && b) ≡ (b && a)
and_turned true true = refl
and_turned true false = refl
and_turned false true = refl
and_turned false false = refl

pub bytes_refl : (p : List ℕ) → bytes_eq p p ≡ true
bytes_refl p = (bytes_eq-Decides p p).1 refl

pub same : (p q : List ℕ) → bytes_eq p q ≡ true → p ≡ q
same p q e = (bytes_eq-Decides p q).0 e

-- two tests that pass the same are one
pub same_tests : (a b : Bool) → (a ≡ true → b ≡ true) → (b ≡ true → a ≡ true) → a ≡ b
same_tests true b f g = sym (f refl)
same_tests false true f g = g refl
same_tests false false f g = refl

pub bytes_sym : (p q : List ℕ) → bytes_eq p q ≡ bytes_eq q p
bytes_sym p q = same_tests (bytes_eq p q) (bytes_eq q p) (λ e. (bytes_eq-Decides q p).1 (sym (same p q e))) (λ e. (bytes_eq-Decides p q).1 (sym (same q p e)))

-- ---- leading on

pub leads_refl : (ls : List Link) (p : List ℕ) → leads ls p p ≡ true
unfolding leads
leads_refl [] p = bytes_refl p
leads_refl (l ∷ ls) p = or_left (leads ls p p) (leads ls p l.caller && leads ls l.callee p) (leads_refl ls p)

own_link : (l : Link) (ls : List Link) → has_link (l ∷ ls) l.caller l.callee ≡ true
own_link l ls = or_left (is_link l.caller l.callee l) (has_link ls l.caller l.callee) (both (bytes_eq l.caller l.caller) (bytes_eq l.callee l.callee) (bytes_refl l.caller) (bytes_refl l.callee))

-- to the caller of the first call, by any of the calls
to_caller : (l : Link) (ls : List Link) (p : List ℕ) → leads (l ∷ ls) p l.caller ≡ true → leads ls p l.caller ≡ true
unfolding leads
to_caller l ls p h = elim (or_cases (leads ls p l.caller) (leads ls p l.caller && leads ls l.callee l.caller) h) [
  | inl e ↦ e
  | inr e ↦ (and_parts (leads ls p l.caller) (leads ls l.callee l.caller) e).0
]

pub leads_on : (ls : List Link) (p q r : List ℕ) → leads ls p q ≡ true → has_link ls q r ≡ true → leads ls p r ≡ true
unfolding leads
leads_on [] p q r h k = absurd cc
leads_on (l ∷ ls) p q r h k = elim (or_cases (is_link q r l) (has_link ls q r) k) [
  | inl here ↦
      let is = and_parts (bytes_eq q l.caller) (bytes_eq r l.callee) here in
      let to : leads ls p l.caller ≡ true = to_caller l ls p (subst (λ (x : List ℕ). leads (l ∷ ls) p x ≡ true) (same q l.caller is.0) h) in
      let on : leads ls l.callee r ≡ true = subst (λ (x : List ℕ). leads ls l.callee x ≡ true) (sym (same r l.callee is.1)) (leads_refl ls l.callee) in
      or_right (leads ls p r) (leads ls p l.caller && leads ls l.callee r) (both (leads ls p l.caller) (leads ls l.callee r) to on)
  | inr there ↦ elim (or_cases (leads ls p q) (leads ls p l.caller && leads ls l.callee q) h) [
    | inl e ↦ or_left (leads ls p r) (leads ls p l.caller && leads ls l.callee r) (leads_on ls p q r e there)
    | inr e ↦
        let parts = and_parts (leads ls p l.caller) (leads ls l.callee q) e in
        or_right (leads ls p r) (leads ls p l.caller && leads ls l.callee r) (both (leads ls p l.caller) (leads ls l.callee r) parts.0 (leads_on ls l.callee q r parts.1 there))
  ]
]

-- a test that passes with each caller what it calls passes what a policy leads to
pub leads_within : (test : List ℕ → Bool) (ls : List Link) → ((p q : List ℕ) → test p ≡ true → has_link ls p q ≡ true → test q ≡ true)
    → (p r : List ℕ) → leads ls p r ≡ true → test p ≡ true → test r ≡ true
unfolding leads
leads_within test [] closed p r h t = subst (λ (x : List ℕ). test x ≡ true) (same p r h) t
leads_within test (l ∷ ls) closed p r h t =
    let less : (p q : List ℕ) → test p ≡ true → has_link ls p q ≡ true → test q ≡ true = λ a b s k. closed a b s (or_right (is_link a b l) (has_link ls a b) k) in
    elim (or_cases (leads ls p r) (leads ls p l.caller && leads ls l.callee r) h) [
      | inl e ↦ leads_within test ls less p r e t
      | inr e ↦
          let parts = and_parts (leads ls p l.caller) (leads ls l.callee r) e in
          leads_within test ls less l.callee r parts.1 (closed l.caller l.callee (leads_within test ls less p l.caller parts.0 t) (own_link l ls))
    ]

pub leads_trans : (ls : List Link) (p q r : List ℕ) → leads ls p q ≡ true → leads ls q r ≡ true → leads ls p r ≡ true
leads_trans ls p q r h k = leads_within (leads ls p) ls (λ a b s j. leads_on ls p a b s j) q r k h
