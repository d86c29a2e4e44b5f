-- When what a `from` asks holds for a route (Junos OS Routing Policies, Firewall Filters, and Traffic Policers User Guide,
-- 'Routing Policy Match Conditions').
use Rattle.std.specs.Prelude.{ℕ, Bool, true, false, ◌&&◌, ◌==◌, List, [], ◌∷◌, Some, None}
use Rattle.std.specs.List.{list_any}
use Rattle.route_types.specs.Address.{same_family}
use Rattle.route_types.specs.Route.{RouteParts}
use Rattle.route_types.specs.declared.address.Address.{Address}
use Rattle.route_types.specs.declared.route.NextHop.{NextHop as Hop}
use Rattle.route_types.specs.declared.route.NextHop.TheVariants.{At, Own}
use Rattle.prefix_sets.specs.Range.{in_range}
use Rattle.community_sets.specs.Tests.{all_fitted}
use Rattle.aspath_text.specs.JunosRead.{junos_pattern_in}
use Rattle.path_patterns.specs.PathMatches.{path_matches}
use Rattle.core_nodes.specs.Atoms.{same_origin}
use Rattle.junos_plans.specs.declared.condition.PlannedCondition.{PlannedCondition}
use Rattle.junos_plans.specs.declared.condition.PlannedCondition.TheVariants.{Anything, Destination, NextHop, Path, Communities, Med, LocalPreference, Origin}
use Rattle.junos_plans.specs.declared.condition.PlannedEntry.{PlannedEntry}
use Rattle.junos_plans.specs.declared.condition.PlannedTest.{PlannedTest}
use Rattle.junos_plans.specs.declared.condition.PlannedTest.TheVariants.{Asked, Listed}

-- the next hop is this address; the router's own one is none
abbrev pub is_hop : Hop → Address → Bool
is_hop (At a) b = same_family a.family b.family && (a.bits == b.bits)
is_hop Own b = false

-- the pattern that the text spells matches the path
abbrev pub text_matches : List ℕ → List ℕ → Bool
text_matches text path = elim (junos_pattern_in text) [ None ↦ false | Some p ↦ path_matches p path ]

-- the condition holds for the route
abbrev pub condition_holds : RouteParts → PlannedCondition → Bool
condition_holds r Anything = true
condition_holds r (Destination ranges) = list_any (λ x. in_range x r.prefix) ranges
condition_holds r (NextHop hops) = list_any (is_hop r.next_hop) hops
condition_holds r (Path texts) = list_any (λ t. text_matches t r.path) texts
condition_holds r (Communities sets) = list_any (λ rects. all_fitted rects r.communities) sets
condition_holds r (Med n) = r.med == n
condition_holds r (LocalPreference n) = r.local_preference == n
condition_holds r (Origin o) = same_origin r.origin o

-- ---- lists

-- the first term whose condition holds accepts or rejects; where none does, the answer is no
unfoldable pub entries_accept : (PlannedCondition → Bool) → List PlannedEntry → Bool
entries_accept holds [] = false
entries_accept holds (e ∷ es) = elim (holds e.condition) [ true ↦ e.permit | false ↦ entries_accept holds es ]

-- the same, where another answer stands behind the terms
unfoldable pub accept_or : (PlannedCondition → Bool) → List PlannedEntry → Bool → Bool
accept_or holds [] later = later
accept_or holds (e ∷ es) later = elim (holds e.condition) [ true ↦ e.permit | false ↦ accept_or holds es later ]

-- what a literal asks holds, by what conditions answer
abbrev pub test_holds : (PlannedCondition → Bool) → PlannedTest → Bool
test_holds holds (Asked c) = holds c
test_holds holds (Listed ls) = list_any (λ l. entries_accept holds l.entries) ls
