-- Whole sets of communities behind a change: each member is there, and no other one is.
use Rattle.std.proofs.Common.{◌≡◌, refl, sym, ap, ◌∙◌, ℕ, ◌<◌, ◌^◌, ◌==◌, Bool, true, false, ◌&&◌, ◌||◌, List, [], ◌∷◌, ◌++◌, map, arith}
use Rattle.std.specs.Prelude.{not}
use Rattle.std.specs.List.{list_any, list_all, AllByRecursion}
use Rattle.std.proofs.lemmas.Bool.Decides.{nat_tests}
use Rattle.std.proofs.lemmas.List.Folds.{list_any-append}
use Rattle.route_types.specs.Route.{RouteParts, InRange}
use Rattle.route_types.specs.Community.{RectParts, fits}
use Rattle.route_types.specs.Sets.{fits_some}
use Rattle.route_types.specs.declared.community.Community.{Community}
use Rattle.route_types.specs.declared.community.CommChange.{CommChange}
use Rattle.community_sets.specs.Tests.{all_fitted, is_member}
use Rattle.community_cuts.specs.Earlier.{behind}
use Rattle.community_cuts.proofs.FittedAfter.{any_behind, any_same}
use Rattle.community_branches.specs.Asked.{point, every}
use Rattle.community_branches.specs.Branches.{some_fitted, all_fitted_behind}
use Rattle.community_branches.specs.Tests.{exactly_behind, others_behind}
use Rattle.community_branches.proofs.AskedLaws.{some_some}

-- ---- single communities

point_fits : (c d : Community) → fits (point c) d ≡ (c.0 == d.0)
point_fits c d = grind arith

every_fits : (c : Community) → c.0 < 2 ^ 32 → fits every c ≡ true
every_fits c h = grind (arith, nat_tests)

same_turned : (a b : ℕ) → (a == b) ≡ (b == a)
same_turned a b = grind arith

-- the points of the members are fitted by the members alone
points_fit : (members : List Community) (c : Community) → fits_some fits (map point members) c ≡ is_member c members
points_fit [] c = refl
points_fit (m ∷ ms) c =
    ap (λ (b : Bool). b || fits_some fits (map point ms) c) (point_fits m c ∙ same_turned m.0 c.0)
    ∙ ap (λ (b : Bool). (c.0 == m.0) || b) (points_fit ms c)

-- each member is in the set where each point is fitted
pub points_fitted : (members set : List Community) → all_fitted (map point members) set ≡ list_all (λ c. is_member c set) members
points_fitted [] set = refl
points_fitted (m ∷ ms) set =
    ap (λ (b : Bool). b && all_fitted (map point ms) set) (any_same (λ c. fits (point m) c) (λ d. m.0 == d.0) set (λ c. point_fits m c))
    ∙ ap (λ (b : Bool). is_member m set && b) (points_fitted ms set)

-- ---- all, and none that isn't

not_and : (a b : Bool) → (a && not b) ≡ not (not a || b)
not_and true b = refl
not_and false b = refl

not_or : (a b : Bool) → (not b && not a) ≡ not (a || b)
not_or true true = refl
not_or true false = refl
not_or false true = refl
not_or false false = refl

not_not : (a : Bool) → not (not a) ≡ a
not_not true = refl
not_not false = refl

all_none : {A : Type 0} (p : A → Bool) (xs : List A) → list_all p xs ≡ not (list_any (λ x. not (p x)) xs)
all_none p [] = refl
all_none p (x ∷ xs) = ap (λ (b : Bool). p x && b) (all_none p xs) ∙ not_and (p x) (list_any (λ y. not (p y)) xs)

-- some added community is no member, or none is
strangers : (members added : List Community) (b : Bool) → list_all (λ c. is_member c members) added ≡ b → list_any (λ c. not (is_member c members)) added ≡ not b
strangers members added b e =
    sym (not_not (list_any (λ c. not (is_member c members)) added)) ∙ ap not (sym (all_none (λ c. is_member c members) added) ∙ e)

or_none : (a b : Bool) → b ≡ false → (a || b) ≡ a
or_none true b e = refl
or_none false b e = e

or_held : (a b : Bool) → b ≡ true → (a || b) ≡ true
or_held true b e = refl
or_held false b e = e

-- which communities are there that the change leaves and that are no members
abbrev left_over : List Community → CommChange → Community → Bool
left_over members change c = not (fits_some fits change.removed c) && not (is_member c members)

behind_strangers : (members : List Community) (change : CommChange) (set : List Community) → list_any (λ c. not (is_member c members)) (behind change set) ≡ (list_any (left_over members change) set || list_any (λ c. not (is_member c members)) change.added)
behind_strangers members change set = any_behind (λ c. not (is_member c members)) change set

and_none : (a b : Bool) → b ≡ false → (a && b) ≡ false
and_none true b e = e
and_none false b e = refl

-- where what is added is no member, the set behind the change is another one
pub stranger_added : (members : List Community) (change : CommChange) → list_all (λ c. is_member c members) change.added ≡ false → (r : RouteParts) → exactly_behind change members r ≡ false
stranger_added members change h r =
    let set : List Community = behind change r.communities in
    and_none (list_all (λ c. is_member c set) members) (list_all (λ c. is_member c members) set)
    (all_none (λ c. is_member c members) set
    ∙ ap not (behind_strangers members change r.communities ∙ or_held (list_any (left_over members change) r.communities) (list_any (λ c. not (is_member c members)) change.added) (strangers members change.added false h)))

-- each community behind the change is a member, where each that is there is a member or removed
others_law : (members : List Community) (change : CommChange) → list_all (λ c. is_member c members) change.added ≡ true → (r : RouteParts) → list_all (λ c. is_member c members) (behind change r.communities) ≡ others_behind change (map point members) r
others_law members change h r =
    all_none (λ c. is_member c members) (behind change r.communities)
    ∙ ap not (
    behind_strangers members change r.communities
    ∙ or_none (list_any (left_over members change) r.communities) (list_any (λ c. not (is_member c members)) change.added) (strangers members change.added true h)
    ∙ any_same (left_over members change) (λ c. not (fits_some fits (map point members ++ change.removed) c)) r.communities (λ c.
    ap (λ (b : Bool). not (fits_some fits change.removed c) && not b) (sym (points_fit members c))
    ∙ not_or (fits_some fits (map point members) c) (fits_some fits change.removed c)
    ∙ ap not (sym (list_any-append (λ (x : RectParts). fits x c) (map point members) change.removed)))
    )

-- the set behind the change is that of the members
pub exactly_law : (members : List Community) (change : CommChange) (points : List RectParts) → points ≡ map point members → list_all (λ c. is_member c members) change.added ≡ true
    → (r : RouteParts) → (all_fitted_behind change points r && others_behind change points r) ≡ exactly_behind change members r
exactly_law members change points e h r =
    ap (λ (ps : List RectParts). all_fitted_behind change ps r && others_behind change ps r) e
    ∙ ap (λ (b : Bool). b && others_behind change (map point members) r) (points_fitted members (behind change r.communities))
    ∙ ap (λ (b : Bool). list_all (λ c. is_member c (behind change r.communities)) members && b) (sym (others_law members change h r))

-- ---- what no rectangle has

any_within : (p q : Community → Bool) (cs : List Community) → ((c : Community) → c.0 < 2 ^ 32 → p c ≡ q c) → AllByRecursion (λ c. c.0 < 2 ^ 32) cs → list_any p cs ≡ list_any q cs
any_within p q [] h all = refl
any_within p q (c ∷ cs) h all = ap (λ (b : Bool). b || list_any p cs) (h c all.0) ∙ ap (λ (b : Bool). q c || b) (any_within p q cs h all.1)

-- what is left of all communities
pub others_left : (rects away left : List RectParts) (change : CommChange) → away ≡ rects ++ change.removed → ((c : Community) → fits_some fits left c ≡ (fits every c && not (fits_some fits away c)))
    → (r : RouteParts) → InRange r → not (some_fitted left r) ≡ others_behind change rects r
others_left rects away left change e is r range =
    ap not (
    some_some left r.communities
    ∙ any_within (λ c. fits_some fits left c) (λ c. not (fits_some fits (rects ++ change.removed) c)) r.communities (λ c small.
    is c ∙ ap (λ (b : Bool). b && not (fits_some fits away c)) (every_fits c small) ∙ ap (λ (xs : List RectParts). not (fits_some fits xs c)) e) range.communities
    )
