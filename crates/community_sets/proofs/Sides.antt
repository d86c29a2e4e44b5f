-- What is left of a rectangle without another, coordinate by coordinate.
use Rattle.std.proofs.Common.{◌≡◌, refl, sym, ap, ◌∙◌, ℕ, Bool, true, false, ◌&&◌, ◌||◌, arith}
use Rattle.std.specs.Prelude.{not, nat_le, nat_lt}
use Rattle.std.proofs.lemmas.Bool.Decides.{nat_tests}

-- a number lies within a range where it lies neither below nor above it
pub within_is : (least most n : ℕ) → (nat_le least n && nat_le n most) ≡ (not (nat_lt n least) && not (nat_lt most n))
within_is least most n = grind (arith, nat_tests)

left_by : (o H L b a d e : Bool) → ((((o || ((H && b) && L)) || ((H && a) && L)) || ((H && (not b && not a)) && (L && d))) || ((H && (not b && not a)) && (L && e)))
    ≡ (o || ((H && (L && true)) && not ((not b && not a) && ((not d && not e) && true))))
left_by true H L b a d e = refl
left_by false false L b a d e = refl
left_by false true true true true d e = refl
left_by false true true true false d e = refl
left_by false true true false true d e = refl
left_by false true true false false true true = refl
left_by false true true false false true false = refl
left_by false true true false false false true = refl
left_by false true true false false false false = refl
left_by false true false true true d e = refl
left_by false true false true false d e = refl
left_by false true false false true d e = refl
left_by false true false false false d e = refl

-- the four parts that are added, one after the other, make what is left: H and K are that the upper half lies in
-- the rectangle and in the removed one, L and M the same of the lower half; b and a, d and e that it lies below and above
pub left_parts : (o one two three four H L K M b a d e : Bool) → K ≡ (not b && not a) → M ≡ (not d && not e)
    → one ≡ (o || ((H && b) && L)) → two ≡ (one || ((H && a) && L)) → three ≡ (two || ((H && K) && (L && d))) → four ≡ (three || ((H && K) && (L && e)))
    → four ≡ (o || ((H && (L && true)) && not (K && (M && true))))
left_parts o one two three four H L K M b a d e k m e1 e2 e3 e4 =
    e4 ∙ ap (λ (x : Bool). x || ((H && K) && (L && e))) (e3 ∙ ap (λ (x : Bool). x || ((H && K) && (L && d))) (e2 ∙ ap (λ (x : Bool). x || ((H && a) && L)) e1))
    ∙ ap (λ (x : Bool). (((o || ((H && b) && L)) || ((H && a) && L)) || ((H && x) && (L && d))) || ((H && x) && (L && e))) k
    ∙ left_by o H L b a d e
    ∙ sym (ap (λ (x : Bool). o || ((H && (L && true)) && not (x && (M && true)))) k ∙ ap (λ (x : Bool). o || ((H && (L && true)) && not ((not b && not a) && (x && true)))) m)
