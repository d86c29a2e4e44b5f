-- The values of plans that fit may be written: addresses, ranges, members of communities.
use Rattle.std.proofs.Common.{◌≡◌, refl, ℕ, ◌^◌, ◌<◌, ◌≤◌, true, ◌&&◌, List, [], ◌∷◌, map, reverse, sym, subst, arith, inl, inr, ◌⊎◌}
use Rattle.std.specs.Prelude.{nat_lt, ◌==◌}
use Rattle.std.specs.List.{AllByRecursion}
use Rattle.std.proofs.lemmas.Bool.{and_parts, or_cases, eqb-true}
use Rattle.std.proofs.lemmas.Bool.Decides.{nat_tests}
use Rattle.path_patterns.proofs.Lists.{all_append}
use Rattle.std.proofs.lemmas.Grind.{reverse_onto}
use Rattle.policy_core.specs.Sayable.{is_plain_half, hop_in_range}
use Rattle.prefix_sets.specs.Range.{RangeParts}
use Rattle.route_types.specs.Address.{same_family}
use Rattle.route_types.specs.Community.{RectParts}
use Rattle.route_types.specs.declared.address.Address.{Address}
use Rattle.route_types.specs.declared.address.Family.{Family}
use Rattle.route_types.specs.declared.address.Family.TheVariants.{V4, V6}
use Rattle.route_types.specs.declared.route.NextHop.{NextHop}
use Rattle.route_types.specs.declared.route.NextHop.TheVariants.{At, Own}
use Rattle.junos_text.specs.Written.{FitsHalf, AreSomeFit, FitsNextHop, FitsAddress as FitsWrittenAddress, FitsRange as FitsWrittenRange, FitsMember as FitsWrittenMember}
use Rattle.junos_plans.specs.Fits.{FitsAddress, FitsRange, FitsMember, SomeFit}

-- ---- what holds of each

pub all_each : {A : Type 0} (P Q : A → Type 0) → ((x : A) → P x → Q x) → (xs : List A) → AllByRecursion P xs → AllByRecursion Q xs
all_each P Q f [] h = tt
all_each P Q f (x ∷ xs) h = (f x h.0, all_each P Q f xs h.1)

pub all_map : {A B : Type 0} (P : A → Type 0) (Q : B → Type 0) (f : A → B) → ((x : A) → P x → Q (f x)) → (xs : List A) → AllByRecursion P xs → AllByRecursion Q (map f xs)
all_map P Q f g [] h = tt
all_map P Q f g (x ∷ xs) h = (g x h.0, all_map P Q f g xs h.1)

pub all_reverse : {A : Type 0} (P : A → Type 0) (xs : List A) → AllByRecursion P xs → AllByRecursion P (reverse xs)
all_reverse P [] h = tt
all_reverse P (x ∷ xs) h = subst (AllByRecursion P) (sym (reverse_onto xs x [])) (all_append P (reverse xs) (x ∷ []) (all_reverse P xs h.1) (h.0, tt))

pub some_each : {A : Type 0} (P Q : A → Type 0) → ((x : A) → P x → Q x) → (xs : List A) → SomeFit P xs → AreSomeFit Q xs
some_each P Q f xs h = (h.0, all_each P Q f xs h.1)

-- ---- addresses

family_v4 : (f : Family) → same_family V4 f ≡ true → f ≡ V4
family_v4 V4 e = refl
family_v4 V6 e = absurd cc

below : (a b : ℕ) → nat_lt a b ≡ true → a < b
below a b e = grind (arith, nat_tests)

pub address_written : (a : Address) → FitsAddress a → FitsWrittenAddress a
address_written a e =
    let parts = and_parts (same_family V4 a.family) (nat_lt a.bits (2 ^ 32)) e in
    record { family = family_v4 a.family parts.0; bits = below a.bits (2 ^ 32) parts.1 }

pub hop_written : (h : NextHop) → hop_in_range h ≡ true → FitsNextHop h
hop_written (At a) e = address_written a e
hop_written Own e = tt

pub range_written : (x : RangeParts) → FitsRange x → FitsWrittenRange x
range_written x h = record { family = h.family; masked = h.masked; reaches = h.least; rises = h.rises; most = h.most }

-- ---- communities

half_written : (least most : ℕ) → is_plain_half least most ≡ true → most ≤ 65535 → FitsHalf least most
half_written least most plain small = by_cases (or_cases (least == most) ((least == 0) && (most == 65535)) plain) where
  by_cases : ((least == most) ≡ true) ⊎ (((least == 0) && (most == 65535)) ≡ true) → FitsHalf least most
  by_cases (inl e) = inl (eqb-true least most e, small)
  by_cases (inr e) = let parts = and_parts (least == 0) (most == 65535) e in inr (eqb-true least 0 parts.0, eqb-true most 65535 parts.1)

pub member_written : (r : RectParts) → FitsMember r → FitsWrittenMember r
member_written r h =
    let parts = and_parts (is_plain_half r.high_least r.high_most) (is_plain_half r.low_least r.low_most) h.plain in
    record { high = half_written r.high_least r.high_most parts.0 h.high_most; low = half_written r.low_least r.low_most parts.1 h.low_most }
