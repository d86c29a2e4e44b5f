-- When the conditions of a term hold for a route (Junos OS Routing Policies, Firewall Filters, and Traffic Policers User
-- Guide, 'Routing Policy Match Conditions'): different conditions all have to hold, of one kind one has to. That `protocol`
-- holds exactly where `bgp` is among its words is this project's own.
use Rattle.std.specs.Prelude.{ℕ, Bool, true, false, ◌&&◌, ◌||◌, not, ◌==◌, List, [], ◌∷◌, Option, Some, None, codes, bytes_eq}
use Rattle.std.specs.List.{list_any, list_all}
use Rattle.route_types.specs.Address.{PrefixParts, contains, same_family}
use Rattle.route_types.specs.Route.{RouteParts}
use Rattle.route_types.specs.declared.address.Address.{Address}
use Rattle.route_types.specs.declared.route.NextHop.{NextHop as Hop}
use Rattle.route_types.specs.declared.route.NextHop.TheVariants.{At, Own}
use Rattle.route_types.specs.declared.route.Origin.{Origin as RouteOrigin}
use Rattle.route_types.specs.declared.route.Origin.TheVariants.{Igp, Egp, Incomplete}
use Rattle.prefix_sets.specs.Range.{RangeParts}
use Rattle.prefix_sets.specs.LongestMatch.{longest_match, same_prefix}
use Rattle.community_sets.specs.Tests.{all_fitted}
use Rattle.path_patterns.specs.PathMatches.{path_matches}
use Rattle.path_patterns.specs.declared.items.TokenPattern.{TokenPattern}
use Rattle.junos_tree.specs.declared.item.Condition.{Condition}
use Rattle.junos_tree.specs.declared.item.Condition.TheVariants.{Protocol, Community, AsPath, NextHop, PrefixList, RouteFilter, ListFilter, Metric, LocalPreference, Origin}
use Rattle.junos_tree.specs.declared.item.JunosForm.{JunosForm}
use Rattle.junos_reader.specs.Statements.{called_by_condition, is_calling_condition}
use Rattle.junos_meaning.specs.Sets.{list_members, community_members, path_pattern}
use Rattle.junos_meaning.specs.declared.kinds.Kind.{Kind}
use Rattle.junos_meaning.specs.declared.kinds.Kind.TheVariants.{OfProtocol, OfCommunity, OfPath, OfNextHop, OfPrefixList, OfExactFilter, OfLongerFilter, OfMetric, OfLocalPreference, OfOrigin}

-- ---- one condition

-- the prefix is a member of the list
abbrev pub is_member : List PrefixParts → PrefixParts → Bool
is_member members p = list_any (λ m. same_prefix m p) members

-- some member of the list contains the prefix
abbrev pub is_within : List PrefixParts → PrefixParts → Bool
is_within members p = list_any (λ m. contains m p) members

-- a filter by the members of a list, `exact` or `orlonger`
abbrev pub passes_list : Bool → List PrefixParts → PrefixParts → Bool
passes_list or_longer members p = elim or_longer [ true ↦ is_within members p | false ↦ is_member members p ]

-- the pattern matches the whole path
abbrev pub pattern_holds : Option TokenPattern → List ℕ → Bool
pattern_holds None path = false
pattern_holds (Some pattern) path = path_matches pattern path

-- the next hop is this address; the router's own one is none
abbrev pub is_hop : Hop → Address → Bool
is_hop (At a) b = same_family a.family b.family && (a.bits == b.bits)
is_hop Own b = false

-- two origins are one
abbrev pub same_origin : RouteOrigin → RouteOrigin → Bool
same_origin Igp Igp = true
same_origin Egp Egp = true
same_origin Incomplete Incomplete = true
same_origin _ _ = false

-- a condition holds for a route: some value of it does. Route-filters and `policy` conditions are asked for below.
abbrev pub condition_holds : List JunosForm → RouteParts → Condition → Bool
condition_holds all r (Protocol names) = list_any (bytes_eq (codes "bgp")) names
condition_holds all r (Community names) = list_any (λ name. all_fitted (community_members all name) r.communities) names
condition_holds all r (AsPath names) = list_any (λ name. pattern_holds (path_pattern all name) r.path) names
condition_holds all r (NextHop hops) = list_any (is_hop r.next_hop) hops
condition_holds all r (PrefixList names) = list_any (λ name. is_member (list_members all name) r.prefix) names
condition_holds all r (ListFilter f) = passes_list f.or_longer (list_members all f.list) r.prefix
condition_holds all r (Metric n) = r.med == n
condition_holds all r (LocalPreference n) = r.local_preference == n
condition_holds all r (Origin o) = same_origin r.origin o
condition_holds all r _ = true

-- ---- conditions of one kind

-- the condition is of this kind
abbrev pub is_of : Kind → Condition → Bool
is_of OfProtocol (Protocol names) = true
is_of OfCommunity (Community names) = true
is_of OfPath (AsPath names) = true
is_of OfNextHop (NextHop hops) = true
is_of OfPrefixList (PrefixList names) = true
is_of OfExactFilter (ListFilter f) = not f.or_longer
is_of OfLongerFilter (ListFilter f) = f.or_longer
is_of OfMetric (Metric n) = true
is_of OfLocalPreference (LocalPreference n) = true
is_of OfOrigin (Origin o) = true
is_of _ _ = false

-- the kinds of conditions, beside route-filters and `policy` conditions
abbrev pub kinds : List Kind
kinds = OfProtocol ∷ OfCommunity ∷ OfPath ∷ OfNextHop ∷ OfPrefixList ∷ OfExactFilter ∷ OfLongerFilter ∷ OfMetric ∷ OfLocalPreference ∷ OfOrigin ∷ []

-- of the conditions that are so one holds, or there is none
abbrev pub one_holds : (Condition → Bool) → (Condition → Bool) → List Condition → Bool
one_holds is_so holds cs = not (list_any is_so cs) || list_any (λ c. is_so c && holds c) cs

-- ---- a `from`

-- a condition's route-filter in front of others
abbrev pub filter_onto : Condition → List RangeParts → List RangeParts
filter_onto (RouteFilter f) fs = f ∷ fs
filter_onto _ fs = fs

-- the route-filters of a `from`
abbrev pub filters_in : List Condition → List RangeParts
filters_in [] = []
filters_in (c ∷ cs) = filter_onto c (filters_in cs)

-- the route-filters of a `from` are one condition: the longest match of them decides
abbrev pub filters_hold : List RangeParts → PrefixParts → Bool
filters_hold [] p = true
filters_hold (f ∷ fs) p = longest_match (f ∷ fs) p

-- some policy that a condition names accepts the route, each run by itself on it
abbrev pub call_holds : (List ℕ → Bool) → Condition → Bool
call_holds accepts c = list_any accepts (called_by_condition c)

-- the conditions of a `from` hold: those of each kind do. Without conditions it holds for every route. `accepts` says which
-- policies accept the route.
unfoldable pub from_holds : List JunosForm → (List ℕ → Bool) → RouteParts → List Condition → Bool
from_holds all accepts r cs =
    list_all (λ kind. one_holds (is_of kind) (condition_holds all r) cs) kinds && (filters_hold (filters_in cs) r.prefix && one_holds is_calling_condition (call_holds accepts) cs)
