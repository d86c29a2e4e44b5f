-- The lengths behind a prefix agree with what spells them.
use Rattle.std.proofs.Common.{◌≡◌, refl, ℕ, ◌≤◌, Bool, true, false, ◌&&◌, nat_le, List, [], ◌∷◌, Option, Some, None, arith, inl, inr, lit<, subst}
use Rattle.std.specs.Prelude.{IfSome, codes, bytes_eq}
use Rattle.std.proofs.lemmas.Bool.{leb-true, le-leb, and_parts}
use Rattle.route_types.specs.Words.{◌>>=◌, when, number_in, IsNumber}
use Rattle.route_types.proofs.Numbers.{bind_found, some_is, number_in_found, number_in_spelled}
use Rattle.policy_text.specs.Names.{first_some}
use Rattle.policy_text.specs.Bounds.{SpellBounds, bounds_in}
use Rattle.policy_text.specs.Phrases.{Agrees}
use Rattle.policy_text.proofs.Phrases.{when_found, same_bytes}

one_bound_found : (n : ℕ) (key word : List ℕ) (bound : ℕ) (l : ℕ × ℕ) (s t : Bool) → IsNumber 32 word bound → (s ≡ true → (key ≡ codes "ge") × (n ≤ bound)) → (t ≡ true → (key ≡ codes "le") × (n ≤ bound))
    → first_some (when s (bound, 32)) (when t (n, bound)) ≡ Some l → SpellBounds n (key ∷ word ∷ []) l
one_bound_found n key word bound l true t number ge le e =
    let h = ge refl in
    subst (SpellBounds n (key ∷ word ∷ [])) (some_is (bound, 32) l e) (h.1, number.within, inr (inl ((λ i. h.0 i ∷ number.spelled i ∷ []), refl)))
one_bound_found n key word bound l false true number ge le e =
    let h = le refl in
    subst (SpellBounds n (key ∷ word ∷ [])) (some_is (n, bound) l e) (omega arith, h.1, inr (inr (inl ((λ i. h.0 i ∷ number.spelled i ∷ []), refl, number.within))))
one_bound_found n key word bound l false false number ge le e = absurd cc

-- a bound behind its key is at least n
bound_key : (a k : List ℕ) (n m : ℕ) → (bytes_eq a k && nat_le n m) ≡ true → (a ≡ k) × (n ≤ m)
bound_key a k n m t = let p = and_parts (bytes_eq a k) (nat_le n m) t in (same_bytes a k p.0, leb-true n m p.1)

bounds_found : (n : ℕ) (ws : List (List ℕ)) (l : ℕ × ℕ) → bounds_in n ws ≡ Some l → SpellBounds n ws l
bounds_found n [] l e = subst (SpellBounds n []) (some_is (n, n) l e) (omega arith, omega arith, inl (refl, refl, refl))
bounds_found n (a ∷ []) l e = absurd cc
bounds_found n (a ∷ b ∷ []) l e =
    let bound = bind_found (number_in 32 b) (λ m. first_some (when (bytes_eq a (codes "ge") && nat_le n m) (m, 32)) (when (bytes_eq a (codes "le") && nat_le n m) (n, m))) l e in
    one_bound_found n a b bound.0 l (bytes_eq a (codes "ge") && nat_le n bound.0) (bytes_eq a (codes "le") && nat_le n bound.0) (number_in_found 32 b bound.0 (lit< tt) bound.1) (bound_key a (codes "ge") n bound.0) (bound_key a (codes "le") n bound.0) bound.2
bounds_found n (a ∷ b ∷ c ∷ []) l e = absurd cc
bounds_found n (a ∷ b ∷ c ∷ d ∷ []) l e =
    let least = bind_found (number_in 32 b) (λ m. number_in 32 d >>= λ k. when (bytes_eq a (codes "ge") && bytes_eq c (codes "le") && nat_le n m && nat_le m k) (m, k)) l e in
    let most = bind_found (number_in 32 d) (λ k. when (bytes_eq a (codes "ge") && bytes_eq c (codes "le") && nat_le n least.0 && nat_le least.0 k) (least.0, k)) l least.2 in
    let low = number_in_found 32 b least.0 (lit< tt) least.1 in
    let high = number_in_found 32 d most.0 (lit< tt) most.1 in
    let w = when_found (bytes_eq a (codes "ge") && bytes_eq c (codes "le") && nat_le n least.0 && nat_le least.0 most.0) (least.0, most.0) l most.2 in
    let p = and_parts (bytes_eq a (codes "ge") && bytes_eq c (codes "le") && nat_le n least.0) (nat_le least.0 most.0) w.0 in
    let q = and_parts (bytes_eq a (codes "ge") && bytes_eq c (codes "le")) (nat_le n least.0) p.0 in
    let r = and_parts (bytes_eq a (codes "ge")) (bytes_eq c (codes "le")) q.0 in
    let ge = same_bytes a (codes "ge") r.0 in
    let le = same_bytes c (codes "le") r.1 in
    subst (SpellBounds n (a ∷ b ∷ c ∷ d ∷ [])) w.1 (leb-true n least.0 q.1, leb-true least.0 most.0 p.1, inr (inr (inr ((λ i. ge i ∷ low.spelled i ∷ le i ∷ high.spelled i ∷ []), high.within))))
bounds_found n (a ∷ b ∷ c ∷ d ∷ f ∷ more) l e = absurd cc

bounds_only : (n : ℕ) (ws : List (List ℕ)) (l : ℕ × ℕ) → SpellBounds n ws l → bounds_in n ws ≡ Some l
bounds_only n ws (least, most) (a, b, inl (e, f, g)) = rw (e, f, g) refl
bounds_only n ws (least, most) (a, b, inr (inl (e, f))) = rw (e, f) (rw (number_in_spelled 32 least (omega arith) (omega arith), le-leb n least a) refl)
bounds_only n ws (least, most) (a, b, inr (inr (inl (e, f, c)))) = rw (e, f) (rw (number_in_spelled 32 most c (omega arith), le-leb n most (omega arith)) refl)
bounds_only n ws (least, most) (a, b, inr (inr (inr (e, c)))) =
    rw e (rw (number_in_spelled 32 least (omega arith) (omega arith), number_in_spelled 32 most c (omega arith), le-leb n least a, le-leb least most b) refl)

pub bounds_agree : (n : ℕ) → Agrees (bounds_in n) (SpellBounds n)
bounds_agree n = record { found = bounds_found n; only = bounds_only n }

within : (n : ℕ) (ws : List (List ℕ)) (o : Option (ℕ × ℕ)) → bounds_in n ws ≡ o → IfSome o (λ l. n ≤ l.0)
within n ws (Some l) e = (bounds_found n ws l e).0
within n ws None e = tt

-- the least length is at least n
pub bounds_within : (n : ℕ) (ws : List (List ℕ)) → IfSome (bounds_in n ws) (λ l. n ≤ l.0)
bounds_within n ws = within n ws (bounds_in n ws) refl

-- lengths behind a prefix of at most 32 bits are at most 32
pub spelled_short : (n : ℕ) (ws : List (List ℕ)) (l : ℕ × ℕ) → n ≤ 32 → SpellBounds n ws l → l.1 ≤ 32
spelled_short n ws (least, most) short (a, b, inl (e, f, g)) = omega (arith, short)
spelled_short n ws (least, most) short (a, b, inr (inl (e, f))) = omega arith
spelled_short n ws (least, most) short (a, b, inr (inr (inl (e, f, c)))) = c
spelled_short n ws (least, most) short (a, b, inr (inr (inr (e, c)))) = c
