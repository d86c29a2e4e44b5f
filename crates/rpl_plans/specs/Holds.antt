-- When what conditions ask holds on a route.
use Rattle.std.specs.Prelude.{◌≡◌, ℕ, Bool, true, false, ◌==◌, nat_le, List, [], ◌∷◌, Option, Some, None}
use Rattle.std.specs.List.{list_any}
use Rattle.route_types.specs.Address.{full_prefix}
use Rattle.route_types.specs.Community.{fits}
use Rattle.route_types.specs.Route.{RouteParts}
use Rattle.route_types.specs.declared.route.NextHop.{NextHop}
use Rattle.route_types.specs.declared.route.NextHop.TheVariants.{At, Own}
use Rattle.route_types.specs.declared.route.Origin.{Origin}
use Rattle.route_types.specs.declared.route.Origin.TheVariants.{Igp, Egp, Incomplete}
use Rattle.prefix_sets.specs.Range.{RangeParts, in_range}
use Rattle.community_sets.specs.Tests.{all_fitted}
use Rattle.path_patterns.specs.Finds.{finds_in}
use Rattle.aspath_text.specs.IosRead.{ios_pattern_in}
use Rattle.path_patterns.specs.Items.{IsPath}
use Rattle.path_patterns.specs.PathMatches.{path_matches}
use Rattle.path_patterns.specs.declared.items.TokenPattern.{TokenPattern}
use Rattle.rpl_plans.specs.declared.test.PlannedTest.{PlannedTest}
use Rattle.rpl_plans.specs.declared.test.PlannedTest.TheVariants.{Destination, NextHop as AsksNextHop, PathIn, MatchesAny, MatchesEvery, NoCommunity, MedIs, MedAtLeast, MedAtMost, Origin as AsksOrigin}

-- the address of a next hop, as a prefix of full length, is in one of the ranges; the router's own address is in none
abbrev pub hop_in : List RangeParts → NextHop → Bool
hop_in ranges (At a) = list_any (λ x. in_range x (full_prefix a)) ranges
hop_in ranges Own = false

-- the pattern that the text spells is found in the path
abbrev pub text_finds : List ℕ → List ℕ → Bool
text_finds text path = elim (ios_pattern_in text) [ None ↦ false | Some p ↦ finds_in p path ]

-- the two origins are one
abbrev pub one_origin : Origin → Origin → Bool
one_origin Igp Igp = true
one_origin Egp Egp = true
one_origin Incomplete Incomplete = true
one_origin _ _ = false

-- the test holds on the route
abbrev pub planned_holds : RouteParts → PlannedTest → Bool
planned_holds r (Destination ranges) = list_any (λ x. in_range x r.prefix) ranges
planned_holds r (AsksNextHop ranges) = hop_in ranges r.next_hop
planned_holds r (PathIn texts) = list_any (λ t. text_finds t r.path) texts
planned_holds r (MatchesAny rects) = list_any (λ x. list_any (λ c. fits x c) r.communities) rects
planned_holds r (MatchesEvery rects) = all_fitted rects r.communities
planned_holds r NoCommunity = elim r.communities [ [] ↦ true | c ∷ cs ↦ false ]
planned_holds r (MedIs n) = r.med == n
planned_holds r (MedAtLeast n) = nat_le n r.med
planned_holds r (MedAtMost n) = nat_le r.med n
planned_holds r (AsksOrigin o) = one_origin r.origin o

-- a test that holds on the routes whose path the pattern matches; none where it matches no path
abbrev pub SaysPath : TokenPattern → Option PlannedTest → Type 0
SaysPath p None = (path : List ℕ) → IsPath path → path_matches p path ≡ false
SaysPath p (Some t) = (r : RouteParts) → IsPath r.path → planned_holds r t ≡ path_matches p r.path
