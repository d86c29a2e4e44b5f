-- The list of what is pending: what it leaves of a route, and what it says.
use Rattle.std.proofs.Common.{◌≡◌, refl, ap, ◌∙◌, ℕ, Bool, true, List, [], ◌∷◌, ◌++◌, map, reverse, Option, Some, None}
use Rattle.std.specs.List.{list_all}
use Rattle.std.proofs.lemmas.Bool.{and_parts, and_from}
use Rattle.std.proofs.lemmas.List.{map-append, reverse-append}
use Rattle.std.proofs.lemmas.List.Folds.{list_all-append}
use Rattle.route_types.specs.Route.{RouteParts}
use Rattle.route_types.specs.Change.{changed, changed_by}
use Rattle.route_types.specs.Community.{RectParts}
use Rattle.route_types.specs.declared.community.CommChange.{CommChange}
use Rattle.route_types.specs.declared.route.NextHop.{NextHop}
use Rattle.route_types.specs.declared.route.Origin.{Origin}
use Rattle.route_types.specs.declared.change.Change.{Change}
use Rattle.route_types.specs.declared.change.Change.TheVariants.{NextHop as SetNextHop, Prepend, Origin as SetOrigin, LocalPreference, Med, Weight, Communities}
use Rattle.pending_changes.specs.Pending.{set_or, communities_behind, route_behind, change_to, listed, prepends, changes_of, change_says, if_there, PendingSays}
use Rattle.pending_changes.specs.declared.pending.Pending.{Pending}

-- one list and then the other
pub both_changed : (xs ys : List Change) (r : RouteParts) → changed_by (xs ++ ys) r ≡ changed_by ys (changed_by xs r)
both_changed [] ys r = refl
both_changed (c ∷ xs) ys r = both_changed xs ys (changed c r)

-- ---- what each leaves

local_preference_set : (o : Option ℕ) (r : RouteParts) → changed_by (listed (change_to LocalPreference o)) r ≡ record r { local_preference = set_or o r.local_preference }
local_preference_set None r = refl
local_preference_set (Some n) r = refl

med_set : (o : Option ℕ) (r : RouteParts) → changed_by (listed (change_to Med o)) r ≡ record r { med = set_or o r.med }
med_set None r = refl
med_set (Some n) r = refl

weight_set : (o : Option ℕ) (r : RouteParts) → changed_by (listed (change_to Weight o)) r ≡ record r { weight = set_or o r.weight }
weight_set None r = refl
weight_set (Some n) r = refl

origin_set : (o : Option Origin) (r : RouteParts) → changed_by (listed (change_to SetOrigin o)) r ≡ record r { origin = set_or o r.origin }
origin_set None r = refl
origin_set (Some n) r = refl

next_hop_set : (o : Option NextHop) (r : RouteParts) → changed_by (listed (change_to SetNextHop o)) r ≡ record r { next_hop = set_or o r.next_hop }
next_hop_set None r = refl
next_hop_set (Some n) r = refl

communities_set : (o : Option CommChange) (r : RouteParts) → changed_by (listed (change_to Communities o)) r ≡ record r { communities = communities_behind o r.communities }
communities_set None r = refl
communities_set (Some c) r = refl

-- the first number is put in front last
prepends_more : (n : ℕ) (ns : List ℕ) → prepends (n ∷ ns) ≡ prepends ns ++ Prepend n ∷ []
prepends_more n ns = ap (λ (xs : List ℕ). map Prepend xs) (reverse-append (n ∷ []) ns) ∙ map-append Prepend (reverse ns) (n ∷ [])

prepended : (ns : List ℕ) (r : RouteParts) → changed_by (prepends ns) r ≡ record r { path = ns ++ r.path }
prepended [] r = refl
prepended (n ∷ ns) r =
    ap (λ (cs : List Change). changed_by cs r) (prepends_more n ns) ∙ both_changed (prepends ns) (Prepend n ∷ []) r ∙ ap (λ (q : RouteParts). changed (Prepend n) q) (prepended ns r)

-- one list behind what another one leaves
then_changed : (xs ys : List Change) (r q s : RouteParts) → changed_by xs r ≡ q → changed_by ys q ≡ s → changed_by (xs ++ ys) r ≡ s
then_changed xs ys r q s e f = both_changed xs ys r ∙ ap (λ (x : RouteParts). changed_by ys x) e ∙ f

all_changed : (p : Pending) (r : RouteParts) → changed_by (changes_of p) r ≡ route_behind p r
all_changed p r =
    let one : RouteParts = record r { local_preference = set_or p.local_preference r.local_preference } in
    let two : RouteParts = record one { med = set_or p.med r.med } in
    let three : RouteParts = record two { weight = set_or p.weight r.weight } in
    let four : RouteParts = record three { origin = set_or p.origin r.origin } in
    let five : RouteParts = record four { next_hop = set_or p.next_hop r.next_hop } in
    let six : RouteParts = record five { path = p.prepended ++ r.path } in
    let a = listed (change_to LocalPreference p.local_preference) in
    let b = listed (change_to Med p.med) in
    let c = listed (change_to Weight p.weight) in
    let d = listed (change_to SetOrigin p.origin) in
    let e = listed (change_to SetNextHop p.next_hop) in
    let f = prepends p.prepended in
    let at_two = then_changed a b r one two (local_preference_set p.local_preference r) (med_set p.med one) in
    let at_three = then_changed (a ++ b) c r two three at_two (weight_set p.weight two) in
    let at_four = then_changed ((a ++ b) ++ c) d r three four at_three (origin_set p.origin three) in
    let at_five = then_changed (((a ++ b) ++ c) ++ d) e r four five at_four (next_hop_set p.next_hop four) in
    let at_six = then_changed ((((a ++ b) ++ c) ++ d) ++ e) f r five six at_five (prepended p.prepended five) in
    then_changed (((((a ++ b) ++ c) ++ d) ++ e) ++ f) (listed (change_to Communities p.communities)) r six (route_behind p r) at_six (communities_set p.communities six)

pub listed_leaves : (p : Pending) (changes : List Change) → changes ≡ changes_of p → (r : RouteParts) → changed_by changes r ≡ route_behind p r
listed_leaves p changes e r = ap (λ (cs : List Change). changed_by cs r) e ∙ all_changed p r

-- ---- what they say

module _ (on_value : Change → Bool) (on_rect : RectParts → Bool) where
  says_two : (xs ys : List Change) → list_all (change_says on_value on_rect) xs ≡ true → list_all (change_says on_value on_rect) ys ≡ true → list_all (change_says on_value on_rect) (xs ++ ys) ≡ true
  says_two xs ys e f =
      list_all-append (change_says on_value on_rect) xs ys ∙ and_from (list_all (change_says on_value on_rect) xs) (list_all (change_says on_value on_rect) ys) e f

  says_one : {A : Type 0} (make : A → Change) (o : Option A) → if_there (λ x. change_says on_value on_rect (make x)) o ≡ true → list_all (change_says on_value on_rect) (listed (change_to make o)) ≡ true
  says_one make None e = refl
  says_one make (Some x) e = and_from (change_says on_value on_rect (make x)) true e refl

  says_prepends : (ns : List ℕ) → list_all (λ n. on_value (Prepend n)) ns ≡ true → list_all (change_says on_value on_rect) (prepends ns) ≡ true
  says_prepends [] e = refl
  says_prepends (n ∷ ns) e =
      let both = and_parts (on_value (Prepend n)) (list_all (λ m. on_value (Prepend m)) ns) e in
      ap (λ (cs : List Change). list_all (change_says on_value on_rect) cs) (prepends_more n ns)
      ∙ says_two (prepends ns) (Prepend n ∷ []) (says_prepends ns both.1) (and_from (on_value (Prepend n)) true both.0 refl)

  all_say : (p : Pending) → PendingSays on_value on_rect p → list_all (change_says on_value on_rect) (changes_of p) ≡ true
  all_say p s =
      let a = listed (change_to LocalPreference p.local_preference) in
      let b = listed (change_to Med p.med) in
      let c = listed (change_to Weight p.weight) in
      let d = listed (change_to SetOrigin p.origin) in
      let e = listed (change_to SetNextHop p.next_hop) in
      let f = prepends p.prepended in
      let two = says_two a b (says_one LocalPreference p.local_preference s.local_preference) (says_one Med p.med s.med) in
      let three = says_two (a ++ b) c two (says_one Weight p.weight s.weight) in
      let four = says_two ((a ++ b) ++ c) d three (says_one SetOrigin p.origin s.origin) in
      let five = says_two (((a ++ b) ++ c) ++ d) e four (says_one SetNextHop p.next_hop s.next_hop) in
      let six = says_two ((((a ++ b) ++ c) ++ d) ++ e) f five (says_prepends p.prepended s.prepended) in
      says_two (((((a ++ b) ++ c) ++ d) ++ e) ++ f) (listed (change_to Communities p.communities)) six (says_one Communities p.communities s.communities)

pub listed_says : (p : Pending) (changes : List Change) → changes ≡ changes_of p → (on_value : Change → Bool) (on_rect : RectParts → Bool) → PendingSays on_value on_rect p → list_all (change_says on_value on_rect) changes ≡ true
listed_says p changes e on_value on_rect s = ap (λ (cs : List Change). list_all (change_says on_value on_rect) cs) e ∙ all_say on_value on_rect p s
