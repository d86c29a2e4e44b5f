-- How sets are told apart here: by as many items, each equal to the other in all its parts.
use Rattle.std.proofs.Common.{◌≡◌, refl, sym, subst, ℕ, Bool, true, false, ◌&&◌, ◌==◌, List, eqb-true, eq-eqb, true≢false}
use Rattle.std.proofs.lemmas.Bool.{and_parts}
use Rattle.std.specs.Bool.{Decides}
use Rattle.std.specs.Cmp.Lexicographic.{pointwise, pointwise_decides, bytes_decides}
use Rattle.route_types.specs.Address.{PrefixParts}
use Rattle.route_types.specs.Community.{RectParts}
use Rattle.route_types.specs.contracts.address.FamilyPartialEq.TheImpl as family
use Rattle.route_types.specs.declared.address.Address.{Address}
use Rattle.route_types.specs.declared.address.Family.{Family}
use Rattle.route_types.specs.declared.address.Family.TheVariants.{V4, V6}
use Rattle.prefix_sets.specs.Range.{RangeParts}
use Rattle.rpl_layout.specs.Sharing.{Tells}

-- ---- the tests of items

abbrev same_address : Address → Address → Bool
same_address a b = family.ghosts.eq a.family b.family && a.bits == b.bits

abbrev same_prefix : PrefixParts → PrefixParts → Bool
same_prefix a b = same_address a.address b.address && a.length == b.length

abbrev pub same_range : RangeParts → RangeParts → Bool
same_range a b = same_prefix a.prefix b.prefix && (a.least == b.least && a.most == b.most)

abbrev pub same_rect : RectParts → RectParts → Bool
same_rect a b = a.high_least == b.high_least && (a.high_most == b.high_most && (a.low_least == b.low_least && a.low_most == b.low_most))

-- ---- they decide

-- a test that says yes of one value and itself, and of no two values
pub decides : {A : Type 0} (same : A → A → Bool) → ((a b : A) → same a b ≡ true → a ≡ b) → ((a : A) → same a a ≡ true) → (a b : A) → Decides (same a b) (a ≡ b)
decides same one itself a b = (one a b, λ e. subst (λ x. same a x ≡ true) e (itself a))

both : (a b : Bool) → a ≡ true → b ≡ true → (a && b) ≡ true
both true b is more = more
both false b is more = absurd (true≢false (sym is))

same_number : (n : ℕ) → (n == n) ≡ true
same_number n = eq-eqb n n refl

families : (a b : Family) → family.ghosts.eq a b ≡ true → a ≡ b
families V4 V4 e = refl
families V4 V6 e = absurd (true≢false (sym e))
families V6 V4 e = absurd (true≢false (sym e))
families V6 V6 e = refl

same_family : (a : Family) → family.ghosts.eq a a ≡ true
same_family V4 = refl
same_family V6 = refl

addresses : (a b : Address) → same_address a b ≡ true → a ≡ b
addresses a b e =
    let parts = and_parts (family.ghosts.eq a.family b.family) (a.bits == b.bits) e in
    let bits = eqb-true a.bits b.bits parts.1 in
    λ i. record { family = families a.family b.family parts.0 i; bits = bits i }

prefixes : (a b : PrefixParts) → same_prefix a b ≡ true → a ≡ b
prefixes a b e =
    let parts = and_parts (same_address a.address b.address) (a.length == b.length) e in
    let n = eqb-true a.length b.length parts.1 in
    λ i. record { address = addresses a.address b.address parts.0 i; length = n i }

pub one_range : (a b : RangeParts) → same_range a b ≡ true → a ≡ b
one_range a b e =
    let parts = and_parts (same_prefix a.prefix b.prefix) (a.least == b.least && a.most == b.most) e in
    let ends = and_parts (a.least == b.least) (a.most == b.most) parts.1 in
    let least = eqb-true a.least b.least ends.0 in
    let most = eqb-true a.most b.most ends.1 in
    λ i. record { prefix = prefixes a.prefix b.prefix parts.0 i; least = least i; most = most i }

pub range_itself : (a : RangeParts) → same_range a a ≡ true
range_itself a =
    let address = both (family.ghosts.eq a.prefix.address.family a.prefix.address.family) (a.prefix.address.bits == a.prefix.address.bits) (same_family a.prefix.address.family) (same_number a.prefix.address.bits) in
    let prefix = both (same_address a.prefix.address a.prefix.address) (a.prefix.length == a.prefix.length) address (same_number a.prefix.length) in
    both (same_prefix a.prefix a.prefix) (a.least == a.least && a.most == a.most) prefix (both (a.least == a.least) (a.most == a.most) (same_number a.least) (same_number a.most))

pub one_rect : (a b : RectParts) → same_rect a b ≡ true → a ≡ b
one_rect a b e =
    let parts = and_parts (a.high_least == b.high_least) (a.high_most == b.high_most && (a.low_least == b.low_least && a.low_most == b.low_most)) e in
    let more = and_parts (a.high_most == b.high_most) (a.low_least == b.low_least && a.low_most == b.low_most) parts.1 in
    let ends = and_parts (a.low_least == b.low_least) (a.low_most == b.low_most) more.1 in
    let high_least = eqb-true a.high_least b.high_least parts.0 in
    let high_most = eqb-true a.high_most b.high_most more.0 in
    let low_least = eqb-true a.low_least b.low_least ends.0 in
    let low_most = eqb-true a.low_most b.low_most ends.1 in
    λ i. record { high_least = high_least i; high_most = high_most i; low_least = low_least i; low_most = low_most i }

pub rect_itself : (a : RectParts) → same_rect a a ≡ true
rect_itself a =
    both (a.high_least == a.high_least) (a.high_most == a.high_most && (a.low_least == a.low_least && a.low_most == a.low_most)) (same_number a.high_least)
    (both (a.high_most == a.high_most) (a.low_least == a.low_least && a.low_most == a.low_most) (same_number a.high_most)
    (both (a.low_least == a.low_least) (a.low_most == a.low_most) (same_number a.low_least) (same_number a.low_most)))

-- ---- the tests of sets

abbrev pub same_text : List ℕ → List ℕ → Bool
same_text a b = pointwise (λ m n. m == n) a b

-- the tests by which rows are equal
unfoldable pub own : Tells
own = record {
  ranges = pointwise same_range;
  rects = pointwise same_rect;
  texts = pointwise same_text;
  ranges_decide = pointwise_decides (decides same_range one_range range_itself);
  rects_decide = pointwise_decides (decides same_rect one_rect rect_itself);
  texts_decide = pointwise_decides bytes_decides;
}
