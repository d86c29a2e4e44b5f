-- A route while a run changes it: its path from the far end, its communities in any order.
use Rattle.std.specs.Prelude.{reverse}
use Rattle.route_types.specs.Address.{PrefixParts}
use Rattle.route_types.specs.Community.{set_of}
use Rattle.route_types.specs.Route.{RouteParts}
use Rattle.route_drafts.specs.declared.draft.Draft.{Draft}

-- the route of this prefix that a draft makes
abbrev pub route_of : PrefixParts → Draft → RouteParts
route_of p d = record { prefix = p; next_hop = d.next_hop; path = reverse d.path; origin = d.origin; local_preference = d.local_preference; med = d.med; weight = d.weight; communities = set_of d.communities }
