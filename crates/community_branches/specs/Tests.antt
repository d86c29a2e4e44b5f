-- Tests of whole sets of communities behind a change.
use Rattle.std.specs.Prelude.{Bool, not, ◌++◌, List}
use Rattle.std.specs.List.{list_any}
use Rattle.route_types.specs.Route.{RouteParts}
use Rattle.route_types.specs.Community.{RectParts, fits}
use Rattle.route_types.specs.Sets.{fits_some}
use Rattle.route_types.specs.declared.community.Community.{Community}
use Rattle.route_types.specs.declared.community.CommChange.{CommChange}
use Rattle.community_sets.specs.Tests.{same_set}
use Rattle.community_cuts.specs.Earlier.{behind}

-- the communities behind the change are these
abbrev pub exactly_behind : CommChange → List Community → RouteParts → Bool
exactly_behind change members r = same_set members (behind change r.communities)

-- each community of the route fits one of the rectangles, or is removed
abbrev pub others_behind : CommChange → List RectParts → RouteParts → Bool
others_behind change rects r = not (list_any (λ c. not (fits_some fits (rects ++ change.removed) c)) r.communities)
