-- What a change makes of a route, and what a list of changes does.
use Rattle.std.specs.Prelude.{List, [], ◌∷◌}
use Rattle.route_types.specs.Route.{RouteParts}
use Rattle.route_types.specs.Community.{set_after}
use Rattle.route_types.specs.declared.change.Change.{Change}
use Rattle.route_types.specs.declared.change.Change.TheVariants.{NextHop, Prepend, Origin, LocalPreference, Med, Weight, Communities}

-- the route with one attribute replaced, one number put before the path, or other communities
abbrev pub changed : Change → RouteParts → RouteParts
changed (NextHop n) r = record r { next_hop = n }
changed (Prepend n) r = record r { path = n ∷ r.path }
changed (Origin o) r = record r { origin = o }
changed (LocalPreference n) r = record r { local_preference = n }
changed (Med n) r = record r { med = n }
changed (Weight n) r = record r { weight = n }
changed (Communities c) r = record r { communities = set_after c.removed c.added r.communities }

-- a list of changes runs from left to right
abbrev pub changed_by : List Change → RouteParts → RouteParts
changed_by [] r = r
changed_by (c ∷ cs) r = changed_by cs (changed c r)
