-- What is equal by the derived test is one value: pending changes, and all that they are made of.
use Rattle.std.proofs.Common.{◌≡◌, refl, ap, sym, ℕ, Bool, true, ◌&&◌, ◌==◌, List, [], ◌∷◌, Option, Some, None, eqb-true, true≢false}
use Rattle.std.proofs.lemmas.Bool.{and_parts}
use Rattle.std.specs.Option.{option_eq}
use Rattle.std.specs.Cmp.Lexicographic.{pointwise}
use Rattle.route_types.specs.Community.{RectParts}
use Rattle.route_types.specs.declared.address.Family.{Family}
use Rattle.route_types.specs.declared.address.Family.TheVariants.{V4, V6}
use Rattle.route_types.specs.declared.community.Community.{Community}
use Rattle.route_types.specs.declared.community.CommChange.{CommChange}
use Rattle.route_types.specs.declared.route.Origin.{Origin}
use Rattle.route_types.specs.declared.route.Origin.TheVariants.{Igp, Egp, Incomplete}
use Rattle.route_types.specs.declared.route.NextHop.{NextHop}
use Rattle.route_types.specs.declared.route.NextHop.TheVariants.{At, Own}
use Rattle.route_types.specs.contracts.address.FamilyPartialEq.TheImpl as family
use Rattle.route_types.specs.contracts.route.OriginPartialEq.TheImpl as origin
use Rattle.route_types.specs.contracts.route.NextHopPartialEq.TheImpl as hop
use Rattle.pending_changes.specs.contracts.pending.PendingPartialEq.TheImpl as pending
use Rattle.pending_changes.specs.declared.pending.Pending.{Pending}

-- a test of equality that answers yes on one value alone
abbrev pub Tells : {A : Type 0} → (A → A → Bool) → Type 0
Tells {A} same = (x y : A) → same x y ≡ true → x ≡ y

lists : {A : Type 0} (same : A → A → Bool) → Tells same → Tells (pointwise same)
lists same t [] [] e = refl
lists same t [] (y ∷ ys) e = absurd (true≢false (sym e))
lists same t (x ∷ xs) [] e = absurd (true≢false (sym e))
lists same t (x ∷ xs) (y ∷ ys) e = let both = and_parts (same x y) (pointwise same xs ys) e in λ i. t x y both.0 i ∷ lists same t xs ys both.1 i

options : {A : Type 0} (same : A → A → Bool) → Tells same → Tells (option_eq same)
options same t None None e = refl
options same t None (Some y) e = absurd (true≢false (sym e))
options same t (Some x) None e = absurd (true≢false (sym e))
options same t (Some x) (Some y) e = ap Some (t x y e)

numbers : Tells (λ (x y : ℕ). x == y)
numbers x y e = eqb-true x y e

-- ---- next hops and origins

families : (a b : Family) → family.ghosts.eq a b ≡ true → a ≡ b
families V4 V4 e = refl
families V4 V6 e = absurd (true≢false (sym e))
families V6 V4 e = absurd (true≢false (sym e))
families V6 V6 e = refl

hops : (a b : NextHop) → hop.ghosts.eq a b ≡ true → a ≡ b
hops (At a) (At b) e =
    let both = and_parts (family.ghosts.eq a.family b.family) (a.bits == b.bits) e in
    let bits = numbers a.bits b.bits both.1 in
    λ i. At (record { family = families a.family b.family both.0 i; bits = bits i })
hops (At a) Own e = absurd (true≢false (sym e))
hops Own (At b) e = absurd (true≢false (sym e))
hops Own Own e = refl

origins : (a b : Origin) → origin.ghosts.eq a b ≡ true → a ≡ b
origins Igp Igp e = refl
origins Igp Egp e = absurd (true≢false (sym e))
origins Igp Incomplete e = absurd (true≢false (sym e))
origins Egp Igp e = absurd (true≢false (sym e))
origins Egp Egp e = refl
origins Egp Incomplete e = absurd (true≢false (sym e))
origins Incomplete Igp e = absurd (true≢false (sym e))
origins Incomplete Egp e = absurd (true≢false (sym e))
origins Incomplete Incomplete e = refl

-- ---- changes of communities

abbrev same_rect : RectParts → RectParts → Bool
same_rect a b = a.high_least == b.high_least && (a.high_most == b.high_most && (a.low_least == b.low_least && a.low_most == b.low_most))

rects : Tells same_rect
rects a b e =
    let one = and_parts (a.high_least == b.high_least) (a.high_most == b.high_most && (a.low_least == b.low_least && a.low_most == b.low_most)) e in
    let two = and_parts (a.high_most == b.high_most) (a.low_least == b.low_least && a.low_most == b.low_most) one.1 in
    let three = and_parts (a.low_least == b.low_least) (a.low_most == b.low_most) two.1 in
    let high_least = numbers a.high_least b.high_least one.0 in
    let high_most = numbers a.high_most b.high_most two.0 in
    let low_least = numbers a.low_least b.low_least three.0 in
    let low_most = numbers a.low_most b.low_most three.1 in
    λ i. record { high_least = high_least i; high_most = high_most i; low_least = low_least i; low_most = low_most i }

abbrev same_community : Community → Community → Bool
same_community a b = a.0 == b.0

communities : Tells same_community
communities a b e = let n = numbers a.0 b.0 e in λ i. record { 0 = n i }

abbrev same_change : CommChange → CommChange → Bool
same_change a b = pointwise same_rect a.removed b.removed && pointwise same_community a.added b.added

changes : Tells same_change
changes a b e =
    let both = and_parts (pointwise same_rect a.removed b.removed) (pointwise same_community a.added b.added) e in
    let removed = lists same_rect rects a.removed b.removed both.0 in
    let added = lists same_community communities a.added b.added both.1 in
    λ i. record { removed = removed i; added = added i }

-- ---- what is pending

abbrev same_number : Option ℕ → Option ℕ → Bool
same_number a b = option_eq (λ (x y : ℕ). x == y) a b

abbrev same_numbers : List ℕ → List ℕ → Bool
same_numbers a b = pointwise (λ (x y : ℕ). x == y) a b

-- whether two pending changes are the same, as a set tests it
abbrev pub same_pending : Pending → Pending → Bool
same_pending a b = pending.ghosts.eq a b

pub pendings_tell : Tells same_pending
pendings_tell a b e =
    let hop_part = option_eq hop.ghosts.eq a.next_hop b.next_hop in
    let path_part = same_numbers a.prepended b.prepended in
    let comm_part = option_eq same_change a.communities b.communities in
    let origin_part = option_eq origin.ghosts.eq a.origin b.origin in
    let one = and_parts (same_number a.local_preference b.local_preference) (same_number a.med b.med && (same_number a.weight b.weight && (origin_part && (hop_part && (path_part && comm_part))))) e in
    let two = and_parts (same_number a.med b.med) (same_number a.weight b.weight && (origin_part && (hop_part && (path_part && comm_part)))) one.1 in
    let three = and_parts (same_number a.weight b.weight) (origin_part && (hop_part && (path_part && comm_part))) two.1 in
    let four = and_parts origin_part (hop_part && (path_part && comm_part)) three.1 in
    let five = and_parts hop_part (path_part && comm_part) four.1 in
    let six = and_parts path_part comm_part five.1 in
    let local_preference = options (λ (x y : ℕ). x == y) numbers a.local_preference b.local_preference one.0 in
    let med = options (λ (x y : ℕ). x == y) numbers a.med b.med two.0 in
    let weight = options (λ (x y : ℕ). x == y) numbers a.weight b.weight three.0 in
    let from = options origin.ghosts.eq origins a.origin b.origin four.0 in
    let next_hop = options hop.ghosts.eq hops a.next_hop b.next_hop five.0 in
    let path = lists (λ (x y : ℕ). x == y) numbers a.prepended b.prepended six.0 in
    let both = options same_change changes a.communities b.communities six.1 in
    λ i. record { local_preference = local_preference i; med = med i; weight = weight i; origin = from i; next_hop = next_hop i; prepended = path i; communities = both i }
