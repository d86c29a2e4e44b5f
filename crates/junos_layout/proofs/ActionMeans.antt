-- The actions of a step, in their order, make of a route what is planned.
use Rattle.std.proofs.Common.{◌≡◌, refl, sym, ap, ◌∙◌, ℕ, ◌/◌, ◌%◌, ◌^◌, ◌<◌, ◌≤◌, Bool, true, false, cond, ◌&&◌, ◌||◌, not, ◌==◌, List, [], ◌∷◌, ◌++◌, append-nil, append_assoc, map, Option, Some, None, unwrap_or, arith, eqb-true}
use Rattle.std.specs.Prelude.{nat_le, filter, reverse}
use Rattle.std.specs.List.{list_any, AllByRecursion}
use mathlib.Core.List.{reverse-cons}
use Rattle.std.proofs.lemmas.Bool.{and_parts, and_from}
use Rattle.std.proofs.lemmas.Bool.Decides.{nat_tests}
use Rattle.route_types.specs.Community.{RectParts, fits, set_of, set_after, number, IsAscending}
use Rattle.route_types.specs.Route.{RouteParts}
use Rattle.route_types.specs.Sets.{all_within, fits_some}
use Rattle.route_types.proofs.Sets.{set_itself, set_kept, same_community}
use Rattle.route_types.specs.declared.community.CommChange.{CommChange}
use Rattle.route_types.specs.declared.community.Community.{Community}
use Rattle.route_types.specs.declared.route.NextHop.{NextHop as Hop}
use Rattle.route_types.specs.declared.route.Origin.{Origin as RouteOrigin}
use Rattle.junos_tree.specs.declared.item.Action.{Action}
use Rattle.junos_tree.specs.declared.item.Action.TheVariants.{Metric, LocalPreference, Origin, NextHop}
use Rattle.junos_tree.specs.declared.item.CommunityVerb.TheVariants.{Add, Delete}
use Rattle.junos_tree.specs.declared.item.JunosForm.{JunosForm}
use Rattle.junos_meaning.specs.Meaning.{community_of, acted_by}
use Rattle.junos_meaning.specs.Sets.{community_members}
use Rattle.junos_plans.specs.Changes.{prepended, communities_after, changed_as}
use Rattle.junos_plans.specs.declared.changes.PlannedChanges.{PlannedChanges}
use Rattle.junos_layout.specs.Actions.{set_to, prepend_of, everything, is_all, member_alone, done_with, replaced, community_actions, actions_of}
use Rattle.junos_layout.specs.Uses.{some_members, replacing, changed_sets}
use Rattle.junos_layout.specs.Writing.{Writing}

-- ---- communities

community_again : (c : Community) → community_of (member_alone c) ≡ c
community_again c = same_community (community_of (member_alone c)) c (omega arith)

again : (cs : List Community) → map community_of (map member_alone cs) ≡ cs
again [] = refl
again (c ∷ cs) = ap (λ k. k ∷ map community_of (map member_alone cs)) (community_again c) ∙ ap (λ ks. c ∷ ks) (again cs)

-- what a removal leaves
abbrev kept : List RectParts → List Community → List Community
kept removed old = filter (λ c. not (fits_some fits removed c)) old

all_kept : (old : List Community) → kept [] old ≡ old
all_kept [] = refl
all_kept (c ∷ cs) = ap (λ ks. c ∷ ks) (all_kept cs)

le_test : (a b : ℕ) → a ≤ b → nat_le a b ≡ true
le_test a b h = grind (arith, nat_tests)

within_all : (hl hm ll lm n : ℕ) → hl ≡ 0 → hm ≡ 65535 → ll ≡ 0 → lm ≡ 65535 → n < 2 ^ 32 → all_within ((hl, hm) ∷ (ll, lm) ∷ []) (n / 2 ^ 16 ∷ n % 2 ^ 16 ∷ []) ≡ true
within_all hl hm ll lm n a b c d h =
    and_from (nat_le hl (n / 2 ^ 16) && nat_le (n / 2 ^ 16) hm) ((nat_le ll (n % 2 ^ 16) && nat_le (n % 2 ^ 16) lm) && true)
    (and_from (nat_le hl (n / 2 ^ 16)) (nat_le (n / 2 ^ 16) hm) (le_test hl (n / 2 ^ 16) (omega (arith, a))) (le_test (n / 2 ^ 16) hm (omega (arith, b, h))))
    (and_from (nat_le ll (n % 2 ^ 16) && nat_le (n % 2 ^ 16) lm) true (and_from (nat_le ll (n % 2 ^ 16)) (nat_le (n % 2 ^ 16) lm) (le_test ll (n % 2 ^ 16) (omega (arith, c))) (le_test (n % 2 ^ 16) lm (omega (arith, d)))) refl)

all_fit : (x : RectParts) (c : Community) → is_all x ≡ true → c.0 < 2 ^ 32 → fits x c ≡ true
all_fit x c e h =
    let one = and_parts ((x.high_least == 0) && (x.high_most == 65535) && (x.low_least == 0)) (x.low_most == 65535) e in
    let two = and_parts ((x.high_least == 0) && (x.high_most == 65535)) (x.low_least == 0) one.0 in
    let three = and_parts (x.high_least == 0) (x.high_most == 65535) two.0 in
    within_all x.high_least x.high_most x.low_least x.low_most c.0 (eqb-true x.high_least 0 three.0) (eqb-true x.high_most 65535 three.1) (eqb-true x.low_least 0 two.1) (eqb-true x.low_most 65535 one.1) h

some_fits : (removed : List RectParts) (c : Community) → list_any is_all removed ≡ true → c.0 < 2 ^ 32 → fits_some fits removed c ≡ true
some_fits [] c e h = absurd cc
some_fits (x ∷ xs) c e h = one (is_all x) refl (λ f. some_fits xs c f h) e where
  one : (b : Bool) → is_all x ≡ b → (list_any is_all xs ≡ true → fits_some fits xs c ≡ true) → (b || list_any is_all xs) ≡ true → (fits x c || fits_some fits xs c) ≡ true
  one true a more f = ap (λ k. k || fits_some fits xs c) (all_fit x c a h)
  one false a more f = or_second (fits x c) (fits_some fits xs c) (more f) where
    or_second : (p q : Bool) → q ≡ true → (p || q) ≡ true
    or_second true q k = refl
    or_second false q k = k

none_kept : (removed : List RectParts) (old : List Community) → list_any is_all removed ≡ true → AllByRecursion (λ c. c.0 < 2 ^ 32) old → kept removed old ≡ []
none_kept removed [] e h = refl
none_kept removed (c ∷ cs) e h = ap (λ (b : Bool). cond (not b) (c ∷ kept removed cs) (kept removed cs)) (some_fits removed c e h.0) ∙ none_kept removed cs e h.1

kept_again : (removed : List RectParts) (old : List Community) → IsAscending old → set_of (kept removed old ++ []) ≡ kept removed old
kept_again removed old h =
    ap set_of (append-nil (kept removed old))
    ∙ set_kept number same_community (λ c. not (fits_some fits removed c)) old
    ∙ ap (λ (cs : List Community). filter (λ c. not (fits_some fits removed c)) cs) (set_itself number same_community old h)

-- ---- numbers before a path

reversed : (ns path : List ℕ) → reverse ns ++ path ≡ prepended ns path
unfolding prepended
reversed [] path = refl
reversed (n ∷ ns) path = ap (λ (t : List ℕ). t ++ path) (reverse-cons n ns) ∙ append_assoc (reverse ns) (n ∷ []) path ∙ reversed ns (n ∷ path)

-- ---- actions

-- the route with these communities
abbrev with_set : RouteParts → List Community → RouteParts
with_set r cs = record r { communities = cs }

module _ (all : List JunosForm) where
  pub acted_join : (xs ys : List Action) (r : RouteParts) → acted_by all (xs ++ ys) r ≡ acted_by all ys (acted_by all xs r)
  unfolding acted_by
  acted_join [] ys r = refl
  acted_join (x ∷ xs) ys r = acted_join xs ys _

  preference_acts : (o : Option ℕ) (r : RouteParts) → acted_by all (set_to LocalPreference o) r ≡ record r { local_preference = unwrap_or o r.local_preference }
  unfolding acted_by
  preference_acts None r = refl
  preference_acts (Some n) r = refl

  med_acts : (o : Option ℕ) (r : RouteParts) → acted_by all (set_to Metric o) r ≡ record r { med = unwrap_or o r.med }
  unfolding acted_by
  med_acts None r = refl
  med_acts (Some n) r = refl

  origin_acts : (o : Option RouteOrigin) (r : RouteParts) → acted_by all (set_to Origin o) r ≡ record r { origin = unwrap_or o r.origin }
  unfolding acted_by
  origin_acts None r = refl
  origin_acts (Some n) r = refl

  hop_acts : (o : Option Hop) (r : RouteParts) → acted_by all (set_to NextHop o) r ≡ record r { next_hop = unwrap_or o r.next_hop }
  unfolding acted_by
  hop_acts None r = refl
  hop_acts (Some n) r = refl

  prepend_acts : (ns : List ℕ) (r : RouteParts) → acted_by all (prepend_of ns) r ≡ record r { path = prepended ns r.path }
  unfolding acted_by prepended
  prepend_acts [] r = refl
  prepend_acts (n ∷ ns) r = ap (λ (p : List ℕ). record r { path = p }) (reversed (n ∷ ns) r.path)

  module _ (w : Writing) where
    -- a community is defined by its members
    abbrev pub HasMembers : List RectParts → Type 0
    HasMembers members = community_members all (w.community members) ≡ members

    delete_acts : (removed : List RectParts) (r : RouteParts) → AllByRecursion HasMembers (some_members removed) → acted_by all (done_with w Delete removed) r ≡ with_set r (kept removed r.communities)
    unfolding acted_by
    delete_acts [] r h = ap (λ (cs : List Community). with_set r cs) (sym (all_kept r.communities))
    delete_acts (x ∷ xs) r h = ap (λ (ms : List RectParts). with_set r (kept ms r.communities)) h.0

    change_by : (everything_goes : Bool) (removed : List RectParts) (added : List Community) (r : RouteParts) → list_any is_all removed ≡ everything_goes
        → AllByRecursion HasMembers (elim everything_goes [ true ↦ replacing (map member_alone added) | false ↦ some_members removed ++ some_members (map member_alone added) ])
        → IsAscending r.communities → AllByRecursion (λ c. c.0 < 2 ^ 32) r.communities
        → acted_by all (elim everything_goes [ true ↦ replaced w (map member_alone added) | false ↦ done_with w Delete removed ++ done_with w Add (map member_alone added) ]) r
        ≡ with_set r (set_after removed added r.communities)
    unfolding acted_by
    change_by true removed [] r e h rising small =
        ap (λ (ms : List RectParts). with_set r (kept ms r.communities)) h.0
        ∙ ap (λ (cs : List Community). with_set r cs) (none_kept (everything ∷ []) r.communities refl small
        ∙ ap (λ (cs : List Community). set_of (cs ++ [])) (sym (none_kept removed r.communities e small)))
    change_by true removed (d ∷ ds) r e h rising small =
        ap (λ (ms : List RectParts). with_set r (set_of (map community_of ms))) h.0
        ∙ ap (λ (cs : List Community). with_set r (set_of cs)) (again (d ∷ ds))
        ∙ ap (λ (cs : List Community). with_set r (set_of (cs ++ (d ∷ ds)))) (sym (none_kept removed r.communities e small))
    change_by false removed [] r e h rising small =
        acted_join (done_with w Delete removed) [] r
        ∙ delete_acts removed r (front (some_members removed) [] h).0
        ∙ ap (λ (cs : List Community). with_set r cs) (sym (kept_again removed r.communities rising))
      where
        front : (xs ys : List (List RectParts)) → AllByRecursion HasMembers (xs ++ ys) → AllByRecursion HasMembers xs × AllByRecursion HasMembers ys
        front [] ys k = (tt, k)
        front (x ∷ xs) ys k = let more = front xs ys k.1 in ((k.0, more.0), more.1)
    change_by false removed (d ∷ ds) r e h rising small =
        let parts = front (some_members removed) (some_members (map member_alone (d ∷ ds))) h in
        acted_join (done_with w Delete removed) (done_with w Add (map member_alone (d ∷ ds))) r
        ∙ ap (λ (q : RouteParts). acted_by all (done_with w Add (map member_alone (d ∷ ds))) q) (delete_acts removed r parts.0)
        ∙ ap (λ (ms : List RectParts). with_set r (set_of (kept removed r.communities ++ map community_of ms))) parts.1.0
        ∙ ap (λ (cs : List Community). with_set r (set_of (kept removed r.communities ++ cs))) (again (d ∷ ds))
      where
        front : (xs ys : List (List RectParts)) → AllByRecursion HasMembers (xs ++ ys) → AllByRecursion HasMembers xs × AllByRecursion HasMembers ys
        front [] ys k = (tt, k)
        front (x ∷ xs) ys k = let more = front xs ys k.1 in ((k.0, more.0), more.1)

    communities_act : (o : Option CommChange) (r : RouteParts) → AllByRecursion HasMembers (changed_sets o) → IsAscending r.communities → AllByRecursion (λ c. c.0 < 2 ^ 32) r.communities
        → acted_by all (community_actions w o) r ≡ with_set r (communities_after o r.communities)
    unfolding acted_by
    communities_act None r h rising small = refl
    communities_act (Some c) r h rising small = change_by (list_any is_all c.removed) c.removed c.added r refl h rising small

    -- the actions of a step make of a route what is planned
    pub actions_act : (p : PlannedChanges) (r : RouteParts) → AllByRecursion HasMembers (changed_sets p.communities) → IsAscending r.communities → AllByRecursion (λ c. c.0 < 2 ^ 32) r.communities
        → acted_by all (actions_of w p) r ≡ changed_as p r
    actions_act p r h rising small =
        let sixth = community_actions w p.communities in
        let fifth = prepend_of p.prepended ++ sixth in
        let fourth = set_to NextHop p.next_hop ++ fifth in
        let third = set_to Origin p.origin ++ fourth in
        let second = set_to Metric p.med ++ third in
        let r1 = record r { local_preference = unwrap_or p.local_preference r.local_preference } in
        let r2 = record r1 { med = unwrap_or p.med r.med } in
        let r3 = record r2 { origin = unwrap_or p.origin r.origin } in
        let r4 = record r3 { next_hop = unwrap_or p.next_hop r.next_hop } in
        let r5 = record r4 { path = prepended p.prepended r.path } in
        acted_join (set_to LocalPreference p.local_preference) second r ∙ ap (acted_by all second) (preference_acts p.local_preference r)
        ∙ (acted_join (set_to Metric p.med) third r1 ∙ ap (acted_by all third) (med_acts p.med r1))
        ∙ (acted_join (set_to Origin p.origin) fourth r2 ∙ ap (acted_by all fourth) (origin_acts p.origin r2))
        ∙ (acted_join (set_to NextHop p.next_hop) fifth r3 ∙ ap (acted_by all fifth) (hop_acts p.next_hop r3))
        ∙ (acted_join (prepend_of p.prepended) sixth r4 ∙ ap (acted_by all sixth) (prepend_acts p.prepended r4))
        ∙ communities_act p.communities r5 h rising small
