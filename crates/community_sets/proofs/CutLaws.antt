-- Rectangles of any number of ranges: when two share numbers, and when one has all numbers of another; and
-- the cut of rectangles of communities.
use Rattle.std.proofs.Common.{◌≡◌, refl, sym, ap, ◌∙◌, ℕ, ◌≤◌, ◌<◌, ◌+◌, ◌*◌, ◌/◌, ◌%◌, ◌^◌, Bool, true, false, ◌&&◌, List, [], ◌∷◌, arith}
use Rattle.std.specs.Prelude.{nat_le, max, min, map}
use Rattle.std.specs.Prelude.{◌↔◌, IsTrue}
use Rattle.std.proofs.lemmas.Bool.{and_parts, and_from}
use Rattle.std.proofs.lemmas.Bool.Decides.{nat_tests}
use Rattle.route_types.specs.Sets.{all_within}
use Rattle.route_types.specs.Community.{RectParts, halves, sides, fits}
use Rattle.route_types.specs.declared.community.Community.{Community}
use Rattle.community_sets.specs.Cuts.{Share, Covered, IsRect, meet, lies_in, cut_of}
use Rattle.community_sets.specs.declared.change.Cut.TheVariants.{Never, Whole}

-- ---- rectangles of any number of ranges

-- numbers that lie in both of two ranges
record Shared (s t : ℕ × ℕ) (n : ℕ) : Type 0 where
  one : (nat_le s.0 n && nat_le n s.1) ≡ true
  other : (nat_le t.0 n && nat_le n t.1) ≡ true

shared_at : (s t : ℕ × ℕ) → nat_le (max s.0 t.0) (min s.1 t.1) ≡ true → Shared s t (max s.0 t.0)
shared_at s t e = record { one = grind (arith, nat_tests); other = grind (arith, nat_tests) }

shared_meet : (s t : ℕ × ℕ) (n : ℕ) → (nat_le s.0 n && nat_le n s.1) ≡ true → (nat_le t.0 n && nat_le n t.1) ≡ true → nat_le (max s.0 t.0) (min s.1 t.1) ≡ true
shared_meet s t n e f = grind (arith, nat_tests)

meet_numbers : (ss ts : List (ℕ × ℕ)) → meet ss ts ≡ true → (ns : List ℕ) × (all_within ss ns ≡ true) × (all_within ts ns ≡ true)
meet_numbers [] [] e = ([], refl, refl)
meet_numbers [] (t ∷ ts) e = absurd cc
meet_numbers (s ∷ ss) [] e = absurd cc
meet_numbers (s ∷ ss) (t ∷ ts) e =
    let p = and_parts (nat_le (max s.0 t.0) (min s.1 t.1)) (meet ss ts) e in
    let n = max s.0 t.0 in
    let here = shared_at s t p.0 in
    let more = meet_numbers ss ts p.1 in
    (n ∷ more.0, and_from (nat_le s.0 n && nat_le n s.1) (all_within ss more.0) here.one more.1, and_from (nat_le t.0 n && nat_le n t.1) (all_within ts more.0) here.other more.2)

numbers_meet : (ss ts : List (ℕ × ℕ)) (ns : List ℕ) → all_within ss ns ≡ true → all_within ts ns ≡ true → meet ss ts ≡ true
numbers_meet [] [] ns e f = refl
numbers_meet [] (t ∷ ts) [] e f = f
numbers_meet [] (t ∷ ts) (n ∷ ns) e f = absurd cc
numbers_meet (s ∷ ss) [] [] e f = e
numbers_meet (s ∷ ss) [] (n ∷ ns) e f = absurd cc
numbers_meet (s ∷ ss) (t ∷ ts) [] e f = absurd cc
numbers_meet (s ∷ ss) (t ∷ ts) (n ∷ ns) e f =
    let p = and_parts (nat_le s.0 n && nat_le n s.1) (all_within ss ns) e in
    let q = and_parts (nat_le t.0 n && nat_le n t.1) (all_within ts ns) f in
    and_from (nat_le (max s.0 t.0) (min s.1 t.1)) (meet ss ts) (shared_meet s t n p.0 q.0) (numbers_meet ss ts ns p.1 q.1)

inner_at : (s t : ℕ × ℕ) (n : ℕ) → (nat_le t.0 s.0 && nat_le s.1 t.1) ≡ true → (nat_le s.0 n && nat_le n s.1) ≡ true → (nat_le t.0 n && nat_le n t.1) ≡ true
inner_at s t n e f = grind (arith, nat_tests)

lies_numbers : (ss ts : List (ℕ × ℕ)) → lies_in ss ts ≡ true → (ns : List ℕ) → all_within ss ns ≡ true → all_within ts ns ≡ true
lies_numbers [] [] e ns f = f
lies_numbers [] (t ∷ ts) e ns f = absurd cc
lies_numbers (s ∷ ss) [] e ns f = absurd cc
lies_numbers (s ∷ ss) (t ∷ ts) e [] f = absurd cc
lies_numbers (s ∷ ss) (t ∷ ts) e (n ∷ ns) f =
    let p = and_parts (nat_le t.0 s.0 && nat_le s.1 t.1) (lies_in ss ts) e in
    let q = and_parts (nat_le s.0 n && nat_le n s.1) (all_within ss ns) f in
    and_from (nat_le t.0 n && nat_le n t.1) (all_within ts ns) (inner_at s t n p.0 q.0) (lies_numbers ss ts p.1 ns q.1)

-- each range has a number
abbrev HaveNumbers : List (ℕ × ℕ) → Type 0
HaveNumbers [] = Unit {0}
HaveNumbers (s ∷ ss) = (s.0 ≤ s.1) × HaveNumbers ss

-- the least and the greatest numbers of ranges, which lie in them
abbrev leasts : List (ℕ × ℕ) → List ℕ
leasts ss = map (λ s. s.0) ss

abbrev mosts : List (ℕ × ℕ) → List ℕ
mosts ss = map (λ s. s.1) ss

ends_at : (s : ℕ × ℕ) → s.0 ≤ s.1 → ((nat_le s.0 s.0 && nat_le s.0 s.1) ≡ true) × ((nat_le s.0 s.1 && nat_le s.1 s.1) ≡ true)
ends_at s h = (grind (arith, nat_tests), grind (arith, nat_tests))

ends_within : (ss : List (ℕ × ℕ)) → HaveNumbers ss → (all_within ss (leasts ss) ≡ true) × (all_within ss (mosts ss) ≡ true)
ends_within [] h = (refl, refl)
ends_within (s ∷ ss) h =
    let e = ends_at s h.0 in
    let more = ends_within ss h.1 in
    (and_from (nat_le s.0 s.0 && nat_le s.0 s.1) (all_within ss (leasts ss)) e.0 more.0, and_from (nat_le s.0 s.1 && nat_le s.1 s.1) (all_within ss (mosts ss)) e.1 more.1)

lies_at : (s t : ℕ × ℕ) → (nat_le t.0 s.0 && nat_le s.0 t.1) ≡ true → (nat_le t.0 s.1 && nat_le s.1 t.1) ≡ true → (nat_le t.0 s.0 && nat_le s.1 t.1) ≡ true
lies_at s t e f = grind (arith, nat_tests)

numbers_lie : (ss ts : List (ℕ × ℕ)) → all_within ts (leasts ss) ≡ true → all_within ts (mosts ss) ≡ true → lies_in ss ts ≡ true
numbers_lie [] [] e f = refl
numbers_lie [] (t ∷ ts) e f = e
numbers_lie (s ∷ ss) [] e f = e
numbers_lie (s ∷ ss) (t ∷ ts) e f =
    let p = and_parts (nat_le t.0 s.0 && nat_le s.0 t.1) (all_within ts (leasts ss)) e in
    let q = and_parts (nat_le t.0 s.1 && nat_le s.1 t.1) (all_within ts (mosts ss)) f in
    and_from (nat_le t.0 s.0 && nat_le s.1 t.1) (lies_in ss ts) (lies_at s t p.0 q.0) (numbers_lie ss ts p.1 q.1)

-- ---- rectangles of communities

have_numbers : (r : RectParts) → IsRect r → HaveNumbers (sides r)
have_numbers r h = (h.high, (h.low, tt))

-- numbers within the sides are the halves of a community
community_at : (r : RectParts) (ns : List ℕ) → IsRect r → all_within (sides r) ns ≡ true → (c : Community) × (halves c ≡ ns)
community_at r [] h e = absurd cc
community_at r (a ∷ []) h e = let p = and_parts (nat_le r.high_least a && nat_le a r.high_most) false e in absurd (let x = p.1 in cc)
community_at r (a ∷ b ∷ []) h e =
    let p = and_parts (nat_le r.high_least a && nat_le a r.high_most) ((nat_le r.low_least b && nat_le b r.low_most) && true) e in
    let q = and_parts (nat_le r.low_least b && nat_le b r.low_most) true p.1 in
    halved a b (below b q.0)
  where
    below : (b : ℕ) → (nat_le r.low_least b && nat_le b r.low_most) ≡ true → b < 2 ^ 16
    below b f = let s = h.small in grind (arith, nat_tests)

    halved : (a b : ℕ) → b < 2 ^ 16 → (c : Community) × (halves c ≡ (a ∷ b ∷ []))
    halved a b k =
        let high : (a * 2 ^ 16 + b) / 2 ^ 16 ≡ a = omega (arith, k) in
        let low : (a * 2 ^ 16 + b) % 2 ^ 16 ≡ b = omega (arith, k) in
        (record { 0 = a * 2 ^ 16 + b }, ap (λ (x : ℕ). x ∷ (a * 2 ^ 16 + b) % 2 ^ 16 ∷ []) high ∙ ap (λ (x : ℕ). a ∷ x ∷ []) low)
community_at r (a ∷ b ∷ n ∷ ns) h e =
    let p = and_parts (nat_le r.high_least a && nat_le a r.high_most) ((nat_le r.low_least b && nat_le b r.low_most) && false) e in
    let q = and_parts (nat_le r.low_least b && nat_le b r.low_most) false p.1 in
    absurd (let x = q.1 in cc)

fits_at : (r s : RectParts) (c : Community) (ns : List ℕ) → halves c ≡ ns → all_within (sides s) ns ≡ true → fits s c ≡ true
fits_at r s c ns e h = ap (λ (xs : List ℕ). all_within (sides s) xs) e ∙ h

-- the answer of the ranges is whether a community is shared
pub share_from : (r s : RectParts) (b : Bool) → IsRect r → b ≡ meet (sides r) (sides s) → IsTrue b ↔ Share r s
share_from r s b h is = (there, λ k. is ∙ numbers_meet (sides r) (sides s) (halves k.community) k.one k.other)
  where
    there : b ≡ true → Share r s
    there e =
        let m = meet_numbers (sides r) (sides s) (sym is ∙ e) in
        let c = community_at r m.0 h m.1 in
        record { community = c.0; one = fits_at r r c.0 m.0 c.1 m.1; other = fits_at r s c.0 m.0 c.1 m.2 }

-- a rectangle shares a community with what covers it
covered_shares : (r s : RectParts) → IsRect r → Covered r s → Share r s
covered_shares r s h k =
    let e = (ends_within (sides r) (have_numbers r h)).0 in
    let c = community_at r (leasts (sides r)) h e in
    let fit = fits_at r r c.0 (leasts (sides r)) c.1 e in
    record { community = c.0; one = fit; other = k.each c.0 fit }

pub covered_so : (r s : RectParts) (b : Bool) → IsRect r → b ≡ meet (sides r) (sides s) → Covered r s → IsTrue b
covered_so r s b h is k = (share_from r s b h is).1 (covered_shares r s h k)

-- the answer of the ranges is whether each community is had
pub covered_from : (r s : RectParts) (b : Bool) → IsRect r → b ≡ lies_in (sides r) (sides s) → IsTrue b ↔ Covered r s
covered_from r s b h is = (λ e. record { each = λ c f. lies_numbers (sides r) (sides s) (sym is ∙ e) (halves c) f }, back)
  where
    had : (ns : List ℕ) → all_within (sides r) ns ≡ true → Covered r s → all_within (sides s) ns ≡ true
    had ns e k =
        let c = community_at r ns h e in
        sym (ap (λ (xs : List ℕ). all_within (sides s) xs) c.1) ∙ k.each c.0 (fits_at r r c.0 ns c.1 e)

    back : Covered r s → b ≡ true
    back k =
        let e = ends_within (sides r) (have_numbers r h) in
        is ∙ numbers_lie (sides r) (sides s) (had (leasts (sides r)) e.0 k) (had (mosts (sides r)) e.1 k)

-- ---- the cut

pub never_by : (met covered : Bool) {M : Type 0} → IsTrue met ↔ M → (cut_of met covered ≡ Never) ↔ (M → ⊥)
never_by false covered m = (λ e k. let x : false ≡ true = m.1 k in cc, λ k. refl)
never_by true true m = (λ e. absurd cc, λ k. absurd (k (m.0 refl)))
never_by true false m = (λ e. absurd cc, λ k. absurd (k (m.0 refl)))

pub whole_by : (met covered : Bool) {C : Type 0} → IsTrue covered ↔ C → (C → met ≡ true) → (cut_of met covered ≡ Whole) ↔ C
whole_by false covered c k = (λ e. absurd cc, λ x. absurd (let y = k x in cc))
whole_by true true c k = (λ e. c.0 refl, λ x. refl)
whole_by true false c k = (λ e. absurd cc, λ x. absurd (let y : false ≡ true = c.1 x in cc))
