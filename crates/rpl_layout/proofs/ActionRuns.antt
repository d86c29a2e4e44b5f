-- The actions of a step, in their order, make of a route what is planned.
use Rattle.std.proofs.Common.{◌≡◌, refl, sym, ap, ◌∙◌, ℕ, suc, ◌+◌, ◌/◌, ◌%◌, ◌^◌, ◌<◌, ◌≤◌, Bool, true, false, cond, ◌&&◌, ◌||◌, not, ◌==◌, List, [], ◌∷◌, ◌++◌, append-nil, map, Option, Some, None, unwrap_or, arith, eqb-true}
use Rattle.std.specs.Prelude.{nat_le, nat_lt, filter}
use Rattle.std.specs.List.{list_any, AllByRecursion}
use Rattle.std.proofs.lemmas.Bool.{and_parts, and_from}
use Rattle.std.proofs.lemmas.Bool.Decides.{nat_tests}
use Rattle.route_types.specs.Community.{RectParts, fits, number, set_of, set_after, IsAscending}
use Rattle.route_types.specs.Route.{RouteParts}
use Rattle.route_types.specs.Sets.{all_within, fits_some}
use Rattle.route_types.proofs.Sets.{set_itself, set_kept, same_community}
use Rattle.route_types.specs.declared.community.CommChange.{CommChange}
use Rattle.route_types.specs.declared.community.Community.{Community}
use Rattle.route_types.specs.declared.route.NextHop.{NextHop as Hop}
use Rattle.route_types.specs.declared.route.Origin.{Origin}
use Rattle.rpl_words.specs.declared.number.RplNumber.TheVariants.{Fixed}
use Rattle.rpl_forms.specs.declared.item.Action.{Action}
use Rattle.rpl_forms.specs.declared.item.Action.TheVariants.{SetMed, SetLocalPreference, SetWeight, SetOrigin, SetNextHop}
use Rattle.rpl_forms.specs.declared.item.RplForm.{RplForm}
use Rattle.rpl_meaning.specs.Meaning.{community_of, repeated, acted}
use Rattle.rpl_meaning.specs.Sets.{Bindings}
use Rattle.rpl_plans.specs.Actions.{prepended, communities_after, acted_by}
use Rattle.rpl_plans.specs.declared.actions.PlannedActions.{PlannedActions}
use Rattle.rpl_layout.specs.Statements.{set_to, prepend_of, goes_on, prepends_from, prepends_of, is_all, deletion, setting, replacement, everything, rect_alone, community_actions, actions_of}
use Rattle.rpl_layout.proofs.RunLaws.{acted_all}

-- ---- numbers before a path

one_more_time : (m times : ℕ) → repeated m (times + 1) ≡ m ∷ repeated m times
unfolding repeated
one_more_time m times = let e : times + 1 ≡ suc times = omega arith in ap (λ k. repeated m k) e

same_number : (m n times : ℕ) → goes_on m times n ≡ true → m ≡ n
same_number m n times e = eqb-true m n (and_parts (m == n) (nat_lt times 63) e).0

module _ (all : List RplForm) (bs : Bindings) where
  prepends_run : (m times : ℕ) (ns : List ℕ) (xs : List Action) (r : RouteParts)
      → acted_all (acted all bs) (prepends_from m times ns ++ xs) r ≡ acted_all (acted all bs) xs (record r { path = prepended ns (repeated m times ++ r.path) })
  unfolding acted_all prepends_from prepended repeated
  prepends_run m times [] xs r = refl
  prepends_run m times (n ∷ ns) xs r = one (goes_on m times n) refl (prepends_run m (times + 1) ns xs r) (prepends_run n 1 ns xs (record r { path = repeated m times ++ r.path })) where
    one : (b : Bool) → goes_on m times n ≡ b
        → acted_all (acted all bs) (prepends_from m (times + 1) ns ++ xs) r ≡ acted_all (acted all bs) xs (record r { path = prepended ns (repeated m (times + 1) ++ r.path) })
        → acted_all (acted all bs) (prepends_from n 1 ns ++ xs) (record r { path = repeated m times ++ r.path })
        ≡ acted_all (acted all bs) xs (record r { path = prepended ns (repeated n 1 ++ (repeated m times ++ r.path)) })
        → acted_all (acted all bs) (elim b [ true ↦ prepends_from m (times + 1) ns | false ↦ prepend_of m times ∷ prepends_from n 1 ns ] ++ xs) r
        ≡ acted_all (acted all bs) xs (record r { path = prepended ns (n ∷ (repeated m times ++ r.path)) })
    one true e on anew =
        on
        ∙ ap (λ (ms : List ℕ). acted_all (acted all bs) xs (record r { path = prepended ns (ms ++ r.path) })) (one_more_time m times)
        ∙ ap (λ (k : ℕ). acted_all (acted all bs) xs (record r { path = prepended ns (k ∷ (repeated m times ++ r.path)) })) (same_number m n times e)
    one false e on anew = anew

  all_prepends_run : (ns : List ℕ) (xs : List Action) (r : RouteParts) → acted_all (acted all bs) (prepends_of ns ++ xs) r ≡ acted_all (acted all bs) xs (record r { path = prepended ns r.path })
  unfolding acted_all prepended repeated
  all_prepends_run [] xs r = refl
  all_prepends_run (n ∷ ns) xs r = prepends_run n 1 ns xs r

  -- ---- attributes

  preference_runs : (o : Option ℕ) (xs : List Action) (r : RouteParts)
      → acted_all (acted all bs) (set_to (λ n. SetLocalPreference (Fixed n)) o ++ xs) r ≡ acted_all (acted all bs) xs (record r { local_preference = unwrap_or o r.local_preference })
  unfolding acted_all
  preference_runs None xs r = refl
  preference_runs (Some n) xs r = refl

  med_runs : (o : Option ℕ) (xs : List Action) (r : RouteParts)
      → acted_all (acted all bs) (set_to (λ n. SetMed (Fixed n)) o ++ xs) r ≡ acted_all (acted all bs) xs (record r { med = unwrap_or o r.med })
  unfolding acted_all
  med_runs None xs r = refl
  med_runs (Some n) xs r = refl

  weight_runs : (o : Option ℕ) (xs : List Action) (r : RouteParts)
      → acted_all (acted all bs) (set_to (λ n. SetWeight (Fixed n)) o ++ xs) r ≡ acted_all (acted all bs) xs (record r { weight = unwrap_or o r.weight })
  unfolding acted_all
  weight_runs None xs r = refl
  weight_runs (Some n) xs r = refl

  origin_runs : (o : Option Origin) (xs : List Action) (r : RouteParts)
      → acted_all (acted all bs) (set_to SetOrigin o ++ xs) r ≡ acted_all (acted all bs) xs (record r { origin = unwrap_or o r.origin })
  unfolding acted_all
  origin_runs None xs r = refl
  origin_runs (Some n) xs r = refl

  hop_runs : (o : Option Hop) (xs : List Action) (r : RouteParts)
      → acted_all (acted all bs) (set_to SetNextHop o ++ xs) r ≡ acted_all (acted all bs) xs (record r { next_hop = unwrap_or o r.next_hop })
  unfolding acted_all
  hop_runs None xs r = refl
  hop_runs (Some n) xs r = refl

-- ---- communities

community_again : (c : Community) → community_of (rect_alone c) ≡ c
community_again c = same_community (community_of (rect_alone c)) c (omega arith)

again : (cs : List Community) → map community_of (map rect_alone cs) ≡ cs
again [] = refl
again (c ∷ cs) = ap (λ k. k ∷ map community_of (map rect_alone cs)) (community_again c) ∙ ap (λ ks. c ∷ ks) (again cs)

-- what a removal leaves
abbrev kept : List RectParts → List Community → List Community
kept removed old = filter (λ c. not (fits_some fits removed c)) old

all_kept : (old : List Community) → kept [] old ≡ old
all_kept [] = refl
all_kept (c ∷ cs) = ap (λ ks. c ∷ ks) (all_kept cs)

le_test : (a b : ℕ) → a ≤ b → nat_le a b ≡ true
le_test a b h = grind (arith, nat_tests)

within_all : (hl hm ll lm n : ℕ) → hl ≡ 0 → hm ≡ 65535 → ll ≡ 0 → lm ≡ 65535 → n < 2 ^ 32 → all_within ((hl, hm) ∷ (ll, lm) ∷ []) (n / 2 ^ 16 ∷ n % 2 ^ 16 ∷ []) ≡ true
within_all hl hm ll lm n a b c d h =
    and_from (nat_le hl (n / 2 ^ 16) && nat_le (n / 2 ^ 16) hm) ((nat_le ll (n % 2 ^ 16) && nat_le (n % 2 ^ 16) lm) && true)
    (and_from (nat_le hl (n / 2 ^ 16)) (nat_le (n / 2 ^ 16) hm) (le_test hl (n / 2 ^ 16) (omega (arith, a))) (le_test (n / 2 ^ 16) hm (omega (arith, b, h))))
    (and_from (nat_le ll (n % 2 ^ 16) && nat_le (n % 2 ^ 16) lm) true (and_from (nat_le ll (n % 2 ^ 16)) (nat_le (n % 2 ^ 16) lm) (le_test ll (n % 2 ^ 16) (omega (arith, c))) (le_test (n % 2 ^ 16) lm (omega (arith, d)))) refl)

all_fit : (x : RectParts) (c : Community) → is_all x ≡ true → c.0 < 2 ^ 32 → fits x c ≡ true
all_fit x c e h =
    let one = and_parts ((x.high_least == 0) && (x.high_most == 65535) && (x.low_least == 0)) (x.low_most == 65535) e in
    let two = and_parts ((x.high_least == 0) && (x.high_most == 65535)) (x.low_least == 0) one.0 in
    let three = and_parts (x.high_least == 0) (x.high_most == 65535) two.0 in
    within_all x.high_least x.high_most x.low_least x.low_most c.0 (eqb-true x.high_least 0 three.0) (eqb-true x.high_most 65535 three.1) (eqb-true x.low_least 0 two.1) (eqb-true x.low_most 65535 one.1) h

some_fits : (removed : List RectParts) (c : Community) → list_any is_all removed ≡ true → c.0 < 2 ^ 32 → fits_some fits removed c ≡ true
some_fits [] c e h = absurd cc
some_fits (x ∷ xs) c e h = one (is_all x) refl (λ f. some_fits xs c f h) e where
  one : (b : Bool) → is_all x ≡ b → (list_any is_all xs ≡ true → fits_some fits xs c ≡ true) → (b || list_any is_all xs) ≡ true → (fits x c || fits_some fits xs c) ≡ true
  one true a more f = ap (λ k. k || fits_some fits xs c) (all_fit x c a h)
  one false a more f = or_second (fits x c) (fits_some fits xs c) (more f) where
    or_second : (p q : Bool) → q ≡ true → (p || q) ≡ true
    or_second true q k = refl
    or_second false q k = k

none_kept : (removed : List RectParts) (old : List Community) → list_any is_all removed ≡ true → AllByRecursion (λ c. c.0 < 2 ^ 32) old → kept removed old ≡ []
none_kept removed [] e h = refl
none_kept removed (c ∷ cs) e h = ap (λ (b : Bool). cond (not b) (c ∷ kept removed cs) (kept removed cs)) (some_fits removed c e h.0) ∙ none_kept removed cs e h.1

set_again : (old : List Community) → IsAscending old → set_of old ≡ old
set_again old h = set_itself number same_community old h

kept_again : (removed : List RectParts) (old : List Community) → IsAscending old → set_of (kept removed old ++ []) ≡ kept removed old
kept_again removed old h =
    ap set_of (append-nil (kept removed old))
    ∙ set_kept number same_community (λ c. not (fits_some fits removed c)) old
    ∙ ap (λ (cs : List Community). filter (λ c. not (fits_some fits removed c)) cs) (set_again old h)

-- the route with these communities
abbrev with_set : RouteParts → List Community → RouteParts
with_set r cs = record r { communities = cs }

module _ (all : List RplForm) (bs : Bindings) where
  deletion_runs : (removed : List RectParts) (xs : List Action) (r : RouteParts)
      → acted_all (acted all bs) (deletion removed ++ xs) r ≡ acted_all (acted all bs) xs (with_set r (kept removed r.communities))
  unfolding acted_all
  deletion_runs [] xs r = ap (λ (cs : List Community). acted_all (acted all bs) xs (with_set r cs)) (sym (all_kept r.communities))
  deletion_runs (x ∷ rs) xs r = refl

  change_by : (everything_goes : Bool) (removed : List RectParts) (added : List Community) (r : RouteParts) → list_any is_all removed ≡ everything_goes
      → IsAscending r.communities → AllByRecursion (λ c. c.0 < 2 ^ 32) r.communities
      → acted_all (acted all bs) (elim everything_goes [ true ↦ replacement everything (map rect_alone added) | false ↦ deletion removed ++ setting true (map rect_alone added) ]) r
      ≡ with_set r (set_after removed added r.communities)
  unfolding acted_all
  change_by true removed [] r e rising small =
      ap (λ (cs : List Community). with_set r cs) (none_kept (everything ∷ []) r.communities refl small
      ∙ ap (λ (cs : List Community). set_of (cs ++ [])) (sym (none_kept removed r.communities e small)))
  change_by true removed (d ∷ ds) r e rising small =
      ap (λ (cs : List Community). with_set r (set_of cs)) (again (d ∷ ds))
      ∙ ap (λ (cs : List Community). with_set r (set_of (cs ++ (d ∷ ds)))) (sym (none_kept removed r.communities e small))
  change_by false removed [] r e rising small =
      deletion_runs removed [] r
      ∙ ap (λ (cs : List Community). with_set r cs) (sym (kept_again removed r.communities rising))
  change_by false removed (d ∷ ds) r e rising small =
      deletion_runs removed (setting true (map rect_alone (d ∷ ds))) r
      ∙ ap (λ (cs : List Community). with_set r (set_of (kept removed r.communities ++ cs))) (again (d ∷ ds))

  communities_run : (o : Option CommChange) (r : RouteParts) → IsAscending r.communities → AllByRecursion (λ c. c.0 < 2 ^ 32) r.communities
      → acted_all (acted all bs) (community_actions o) r ≡ with_set r (communities_after o r.communities)
  unfolding acted_all
  communities_run None r rising small = refl
  communities_run (Some c) r rising small = change_by (list_any is_all c.removed) c.removed c.added r refl rising small

  -- the actions of a step make of a route what is planned
  pub actions_run : (a : PlannedActions) (r : RouteParts) → IsAscending r.communities → AllByRecursion (λ c. c.0 < 2 ^ 32) r.communities → acted_all (acted all bs) (actions_of a) r ≡ acted_by a r
  actions_run a r rising small =
      let last = community_actions a.communities in
      let sixth = prepends_of a.prepended ++ last in
      let fifth = set_to SetNextHop a.next_hop ++ sixth in
      let fourth = set_to SetOrigin a.origin ++ fifth in
      let third = set_to (λ n. SetWeight (Fixed n)) a.weight ++ fourth in
      let second = set_to (λ n. SetMed (Fixed n)) a.med ++ third in
      let r1 = record r { local_preference = unwrap_or a.local_preference r.local_preference } in
      let r2 = record r1 { med = unwrap_or a.med r.med } in
      let r3 = record r2 { weight = unwrap_or a.weight r.weight } in
      let r4 = record r3 { origin = unwrap_or a.origin r.origin } in
      let r5 = record r4 { next_hop = unwrap_or a.next_hop r.next_hop } in
      let r6 = record r5 { path = prepended a.prepended r.path } in
      preference_runs all bs a.local_preference second r
      ∙ med_runs all bs a.med third r1
      ∙ weight_runs all bs a.weight fourth r2
      ∙ origin_runs all bs a.origin fifth r3
      ∙ hop_runs all bs a.next_hop sixth r4
      ∙ all_prepends_run all bs a.prepended last r5
      ∙ communities_run a.communities r6 rising small
