-- What a step changes, an attribute at a time: of each attribute its last value.
use Rattle.std.specs.Prelude.{ℕ, List, [], ◌∷◌, Option, Some, None, unwrap_or}
use Rattle.route_types.specs.Community.{set_after}
use Rattle.route_types.specs.Route.{RouteParts}
use Rattle.route_types.specs.declared.community.CommChange.{CommChange}
use Rattle.route_types.specs.declared.community.Community.{Community}
use Rattle.rpl_plans.specs.declared.actions.PlannedActions.{PlannedActions}

-- numbers before a path, each before the ones that were put there before it
unfoldable pub prepended : List ℕ → List ℕ → List ℕ
prepended [] path = path
prepended (n ∷ ns) path = prepended ns (n ∷ path)

-- the communities behind a change of them, if there is one
abbrev pub communities_after : Option CommChange → List Community → List Community
communities_after None old = old
communities_after (Some c) old = set_after c.removed c.added old

-- what planned actions make of a route
abbrev pub acted_by : PlannedActions → RouteParts → RouteParts
acted_by a r = record {
  prefix = r.prefix;
  next_hop = unwrap_or a.next_hop r.next_hop;
  path = prepended a.prepended r.path;
  origin = unwrap_or a.origin r.origin;
  local_preference = unwrap_or a.local_preference r.local_preference;
  med = unwrap_or a.med r.med;
  weight = unwrap_or a.weight r.weight;
  communities = communities_after a.communities r.communities;
}
