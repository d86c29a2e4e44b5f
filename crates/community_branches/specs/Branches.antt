-- Branches of nodes: a node that leads to one of two nodes, by a test of the route as it arrives.
use Rattle.std.specs.Prelude.{◌≡◌, ℕ, ◌<◌, Bool, List, length, if◌then◌else◌}
use Rattle.std.specs.List.{list_any}
use Rattle.route_types.specs.Route.{RouteParts, InRange}
use Rattle.route_types.specs.Community.{RectParts}
use Rattle.route_types.specs.declared.community.CommChange.{CommChange}
use Rattle.community_sets.specs.Tests.{all_fitted, test_holds, list_answers}
use Rattle.community_sets.specs.declared.list.CommTest.{CommTest}
use Rattle.community_sets.specs.declared.list.CommEntry.{CommEntry}
use Rattle.community_sets.specs.declared.list.CommList.{CommList}
use Rattle.community_cuts.specs.Earlier.{fitted, behind}
use Rattle.community_cuts.specs.Kept.{some_permits}
use Rattle.core_nodes.specs.Made.{Keeps}
use Rattle.core_nodes.specs.Outcome.{outcome_at}
use Rattle.core_nodes.specs.declared.node.NodeKind.{NodeKind}
use Rattle.policy_core.specs.Settled.{IsSettled}

-- a node of the new graph that leads to the node `met` of the old one where the test holds, and to `unmet` else
pub record IsBranch (old new : List NodeKind) (test : RouteParts → Bool) (met unmet n : ℕ) : Type 0 where
  pub within : n < length new
  pub keeps : Keeps old new
  pub answers : (r : RouteParts) → InRange r → outcome_at new n r ≡ outcome_at old (if test r then met else unmet) r
  pub settled : IsSettled old met → IsSettled old unmet → IsSettled new n

-- ---- tests of the communities behind a change

abbrev pub fitted_behind : CommChange → RectParts → RouteParts → Bool
fitted_behind change rect r = fitted rect (behind change r.communities)

abbrev pub all_fitted_behind : CommChange → List RectParts → RouteParts → Bool
all_fitted_behind change rects r = all_fitted rects (behind change r.communities)

abbrev pub test_behind : CommChange → CommTest → RouteParts → Bool
test_behind change test r = test_holds test (behind change r.communities)

abbrev pub entries_behind : CommChange → List CommEntry → RouteParts → Bool
entries_behind change entries r = list_answers entries (behind change r.communities)

abbrev pub lists_behind : CommChange → List CommList → RouteParts → Bool
lists_behind change lists r = some_permits lists (behind change r.communities)

-- some rectangle is fitted by a community of the route
abbrev pub some_fitted : List RectParts → RouteParts → Bool
some_fitted rects r = list_any (λ rect. fitted rect r.communities) rects
