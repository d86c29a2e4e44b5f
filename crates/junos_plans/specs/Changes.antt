-- What a step changes, an attribute at a time: of each attribute its last value.
use Rattle.std.specs.Prelude.{ℕ, List, [], ◌∷◌, Option, Some, None, unwrap_or}
use Rattle.route_types.specs.Community.{set_after}
use Rattle.route_types.specs.Route.{RouteParts}
use Rattle.route_types.specs.declared.community.CommChange.{CommChange}
use Rattle.route_types.specs.declared.community.Community.{Community}
use Rattle.junos_plans.specs.declared.changes.PlannedChanges.{PlannedChanges}

-- numbers before a path, each before the ones that were put there before it
unfoldable pub prepended : List ℕ → List ℕ → List ℕ
prepended [] path = path
prepended (n ∷ ns) path = prepended ns (n ∷ path)

-- the communities behind a change of them, if there is one
abbrev pub communities_after : Option CommChange → List Community → List Community
communities_after None old = old
communities_after (Some c) old = set_after c.removed c.added old

-- what planned changes make of a route
abbrev pub changed_as : PlannedChanges → RouteParts → RouteParts
changed_as p r = record {
  prefix = r.prefix;
  next_hop = unwrap_or p.next_hop r.next_hop;
  path = prepended p.prepended r.path;
  origin = unwrap_or p.origin r.origin;
  local_preference = unwrap_or p.local_preference r.local_preference;
  med = unwrap_or p.med r.med;
  weight = r.weight;
  communities = communities_after p.communities r.communities;
}
