-- A `from` holds for a route where the guard says so: its conditions hold as planned, and its calls as the subroutines answer.
use Rattle.std.proofs.Common.{◌≡◌, refl, sym, ap, ◌∙◌, ℕ, Bool, true, false, ◌&&◌, ◌||◌, List, [], ◌∷◌, ◌++◌, append_assoc, append-nil, map, Option, Some, None, arith}
use Rattle.std.specs.List.{AllByRecursion, IsDistinct, flat_map, list_any, list_all}
use Rattle.route_types.specs.Community.{RectParts}
use Rattle.route_types.specs.Route.{RouteParts}
use Rattle.route_types.specs.declared.address.Address.{Address}
use Rattle.route_types.specs.declared.route.NextHop.{NextHop as Hop}
use Rattle.route_types.specs.declared.route.NextHop.TheVariants.{At, Own}
use Rattle.route_types.specs.declared.route.Origin.{Origin as RouteOrigin}
use Rattle.route_types.specs.declared.route.Origin.TheVariants.{Igp, Egp, Incomplete}
use Rattle.prefix_sets.specs.Range.{RangeParts}
use Rattle.community_sets.specs.Tests.{all_fitted}
use Rattle.aspath_text.specs.JunosRead.{junos_pattern_in}
use Rattle.path_patterns.specs.PathMatches.{path_matches}
use Rattle.path_patterns.specs.declared.items.TokenPattern.{TokenPattern}
use Rattle.core_nodes.specs.Atoms.{same_origin as core_same_origin}
use Rattle.junos_tree.specs.declared.item.Condition.{Condition}
use Rattle.junos_tree.specs.declared.item.Condition.TheVariants.{RouteFilter}
use Rattle.junos_tree.specs.declared.item.JunosForm.{JunosForm}
use Rattle.junos_reader.specs.Statements.{is_calling_condition}
use Rattle.junos_meaning.specs.Conditions.{is_hop as meant_is_hop, same_origin, pattern_holds, is_of, kinds, one_holds, filters_in, filters_hold, call_holds, from_holds}
use Rattle.junos_meaning.specs.Sets.{community_members, path_pattern}
use Rattle.junos_meaning.specs.declared.kinds.Kind.TheVariants.{OfCommunity, OfPath, OfNextHop, OfMetric, OfLocalPreference, OfOrigin}
use Rattle.junos_plans.specs.Conditions.{is_hop, text_matches, condition_holds}
use Rattle.junos_plans.specs.Fits.{FitsCondition, same_kind}
use Rattle.junos_plans.specs.declared.condition.PlannedCondition.{PlannedCondition}
use Rattle.junos_plans.specs.declared.condition.PlannedCondition.TheVariants.{Anything, Destination, NextHop, Path, Communities, Med, LocalPreference, Origin}
use Rattle.junos_layout.specs.Answers.{Defines, DefinesAll}
use Rattle.junos_layout.specs.Terms.{condition_lines}
use Rattle.junos_layout.specs.Writing.{Writing}
use Rattle.junos_layout.proofs.Apart.{longest_alone}
use Rattle.junos_layout.proofs.FromLaws.{None_is, and_swap, and_three, none_OfCommunity, none_OfPath, none_OfNextHop, none_OfMetric, none_OfLocalPreference, none_OfOrigin, lines, none_behind, filters_behind, row, with_Community, with_AsPath, with_NextHop, with_Metric, with_LocalPreference, with_Origin}

-- ---- what a line says

hops_same : (h : Hop) (hops : List Address) → list_any (meant_is_hop h) hops ≡ list_any (is_hop h) hops
hops_same (At a) hops = refl
hops_same Own hops = refl

origins_same : (a b : RouteOrigin) → same_origin a b ≡ core_same_origin a b
origins_same Igp Igp = refl
origins_same Igp Egp = refl
origins_same Igp Incomplete = refl
origins_same Egp Igp = refl
origins_same Egp Egp = refl
origins_same Egp Incomplete = refl
origins_same Incomplete Igp = refl
origins_same Incomplete Egp = refl
origins_same Incomplete Incomplete = refl

pattern_same : (o : Option TokenPattern) (path : List ℕ) → pattern_holds o path ≡ elim o [ None ↦ false | Some p ↦ path_matches p path ]
pattern_same None path = refl
pattern_same (Some p) path = refl

module _ (all : List JunosForm) (w : Writing) (r : RouteParts) where
  paths_same : (texts : List (List ℕ)) → AllByRecursion (λ text. path_pattern all (w.path text) ≡ junos_pattern_in text) texts
      → list_any (λ name. pattern_holds (path_pattern all name) r.path) (map w.path texts) ≡ list_any (λ t. text_matches t r.path) texts
  paths_same [] h = refl
  paths_same (t ∷ ts) h =
      ap (λ (o : Option TokenPattern). pattern_holds o r.path || list_any (λ name. pattern_holds (path_pattern all name) r.path) (map w.path ts)) h.0
      ∙ ap (λ (b : Bool). b || list_any (λ name. pattern_holds (path_pattern all name) r.path) (map w.path ts)) (pattern_same _ r.path)
      ∙ ap (λ (b : Bool). text_matches t r.path || b) (paths_same ts h.1)

  sets_same : (sets : List (List RectParts)) → AllByRecursion (λ members. community_members all (w.community members) ≡ members) sets
      → list_any (λ name. all_fitted (community_members all name) r.communities) (map w.community sets) ≡ list_any (λ rects. all_fitted rects r.communities) sets
  sets_same [] h = refl
  sets_same (s ∷ ss) h =
      ap (λ (ms : List RectParts). all_fitted ms r.communities || list_any (λ name. all_fitted (community_members all name) r.communities) (map w.community ss)) h.0
      ∙ ap (λ (b : Bool). all_fitted s r.communities || b) (sets_same ss h.1)

-- ---- route-filters

module _ (all : List JunosForm) (accepts : List ℕ → Bool) (r : RouteParts) where
  abbrev calls_of : List Condition → Bool
  calls_of xs = one_holds is_calling_condition (call_holds accepts) xs

  rows_same : (fs : List RangeParts) (xs : List Condition) → list_all (row all accepts r (map (λ f. RouteFilter f) fs ++ xs)) kinds ≡ list_all (row all accepts r xs) kinds
  rows_same [] xs = refl
  rows_same (f ∷ fs) xs = rows_same fs xs

  calls_same : (fs : List RangeParts) (xs : List Condition) → calls_of (map (λ f. RouteFilter f) fs ++ xs) ≡ calls_of xs
  calls_same [] xs = refl
  calls_same (f ∷ fs) xs = calls_same fs xs

  filters_are : (fs : List RangeParts) (xs : List Condition) → filters_in xs ≡ [] → filters_in (map (λ f. RouteFilter f) fs ++ xs) ≡ fs
  filters_are [] xs none = none
  filters_are (f ∷ fs) xs none = ap (λ (gs : List RangeParts). f ∷ gs) (filters_are fs xs none)

  with_filters : (f : RangeParts) (fs : List RangeParts) (xs : List Condition) → filters_in xs ≡ []
      → from_holds all accepts r (map (λ g. RouteFilter g) (f ∷ fs) ++ xs) ≡ (filters_hold (f ∷ fs) r.prefix && from_holds all accepts r xs)
  unfolding from_holds
  with_filters f fs xs none =
      ap (λ (b : Bool). b && (filters_hold (filters_in (map (λ g. RouteFilter g) (f ∷ fs) ++ xs)) r.prefix && calls_of (map (λ g. RouteFilter g) (f ∷ fs) ++ xs))) (rows_same (f ∷ fs) xs)
      ∙ ap (λ (gs : List RangeParts). list_all (row all accepts r xs) kinds && (filters_hold gs r.prefix && calls_of (map (λ g. RouteFilter g) (f ∷ fs) ++ xs))) (filters_are (f ∷ fs) xs none)
      ∙ ap (λ (b : Bool). list_all (row all accepts r xs) kinds && (filters_hold (f ∷ fs) r.prefix && b)) (calls_same (f ∷ fs) xs)
      ∙ and_swap (list_all (row all accepts r xs) kinds) (filters_hold (f ∷ fs) r.prefix) (calls_of xs)
      ∙ ap (λ (gs : List RangeParts). filters_hold (f ∷ fs) r.prefix && (list_all (row all accepts r xs) kinds && (filters_hold gs r.prefix && calls_of xs))) (sym none)

-- ---- conditions one behind another

-- what stands behind the conditions of a guard calls policies, and asks nothing else
pub record OnlyCalls (xs : List Condition) : Type 0 where
  pub communities : None_is (is_of OfCommunity) xs
  pub paths : None_is (is_of OfPath) xs
  pub hops : None_is (is_of OfNextHop) xs
  pub meds : None_is (is_of OfMetric) xs
  pub preferences : None_is (is_of OfLocalPreference) xs
  pub origins : None_is (is_of OfOrigin) xs
  pub filters : filters_in xs ≡ []

module _ (all : List JunosForm) (accepts : List ℕ → Bool) (w : Writing) (r : RouteParts) where
  abbrev holds : List Condition → Bool
  holds xs = from_holds all accepts r xs

  condition_first : (c : PlannedCondition) (cs : List PlannedCondition) (behind : List Condition) → Defines all w c → FitsCondition c → AllByRecursion (λ d. same_kind c d ≡ false) cs → OnlyCalls behind
      → holds (condition_lines w c ++ lines w cs behind) ≡ (condition_holds r c && holds (lines w cs behind))
  condition_first Anything cs behind is fits other only = refl
  condition_first (Destination []) cs behind is fits other only = absurd (omega (arith, fits.0.0))
  condition_first (Destination (f ∷ fs)) cs behind is fits other only =
      with_filters all accepts r f fs (lines w cs behind) (filters_behind w cs behind other only.filters)
      ∙ ap (λ (b : Bool). b && holds (lines w cs behind)) (longest_alone (f ∷ fs) r.prefix fits.1)
  condition_first (NextHop hops) cs behind is fits other only =
      with_NextHop all accepts r hops (lines w cs behind) (none_behind w (is_of OfNextHop) 2 (none_OfNextHop w) cs behind other only.hops)
      ∙ ap (λ (b : Bool). b && holds (lines w cs behind)) (hops_same r.next_hop hops)
  condition_first (Path texts) cs behind is fits other only =
      with_AsPath all accepts r (map w.path texts) (lines w cs behind) (none_behind w (is_of OfPath) 3 (none_OfPath w) cs behind other only.paths)
      ∙ ap (λ (b : Bool). b && holds (lines w cs behind)) (paths_same all w r texts is)
  condition_first (Communities sets) cs behind is fits other only =
      with_Community all accepts r (map w.community sets) (lines w cs behind) (none_behind w (is_of OfCommunity) 4 (none_OfCommunity w) cs behind other only.communities)
      ∙ ap (λ (b : Bool). b && holds (lines w cs behind)) (sets_same all w r sets is)
  condition_first (Med n) cs behind is fits other only =
      with_Metric all accepts r n (lines w cs behind) (none_behind w (is_of OfMetric) 5 (none_OfMetric w) cs behind other only.meds)
  condition_first (LocalPreference n) cs behind is fits other only =
      with_LocalPreference all accepts r n (lines w cs behind) (none_behind w (is_of OfLocalPreference) 6 (none_OfLocalPreference w) cs behind other only.preferences)
  condition_first (Origin o) cs behind is fits other only =
      with_Origin all accepts r o (lines w cs behind) (none_behind w (is_of OfOrigin) 7 (none_OfOrigin w) cs behind other only.origins)
      ∙ ap (λ (b : Bool). b && holds (lines w cs behind)) (origins_same r.origin o)

  pub conditions_hold : (cs : List PlannedCondition) (behind : List Condition) → DefinesAll all w cs → AllByRecursion FitsCondition cs → IsDistinct same_kind cs → OnlyCalls behind
      → holds (lines w cs behind) ≡ (list_all (condition_holds r) cs && holds behind)
  unfolding IsDistinct
  conditions_hold [] behind is fits different only = refl
  conditions_hold (c ∷ cs) behind is fits different only =
      ap holds (append_assoc (condition_lines w c) (flat_map (condition_lines w) cs) behind)
      ∙ condition_first c cs behind is.0 fits.0 different.0 only
      ∙ ap (λ (b : Bool). condition_holds r c && b) (conditions_hold cs behind is.1 fits.1 different.1 only)
      ∙ sym (and_three (condition_holds r c) (list_all (condition_holds r) cs) (holds behind))

  only_nothing : OnlyCalls []
  only_nothing = record { communities = refl; paths = refl; hops = refl; meds = refl; preferences = refl; origins = refl; filters = refl }

  append-nothing : (b : Bool) → (b && true) ≡ b
  append-nothing true = refl
  append-nothing false = refl

  -- the lines of one condition hold where it does
  pub condition_alone : (c : PlannedCondition) → Defines all w c → FitsCondition c → holds (condition_lines w c) ≡ condition_holds r c
  unfolding from_holds
  condition_alone c is fits =
      ap holds (sym (append-nil (condition_lines w c)))
      ∙ condition_first c [] [] is fits tt only_nothing
      ∙ append-nothing (condition_holds r c)
