-- The route (RFC 4271, 1997 and 6793). That every attribute is present is this project's own.
use Rattle.std.specs.Prelude.{◌≡◌, ℕ, ◌<◌, ◌^◌, List}
use Rattle.std.specs.List.{AllByRecursion}
use Rattle.route_types.specs.Address.{PrefixParts, IsMasked}
use Rattle.route_types.specs.Community.{IsAscending}
use Rattle.route_types.specs.declared.address.Family.TheVariants.{V4}
use Rattle.route_types.specs.declared.community.Community.{Community}
use Rattle.route_types.specs.declared.route.NextHop.{NextHop}
use Rattle.route_types.specs.declared.route.NextHop.TheVariants.{At, Own}
use Rattle.route_types.specs.declared.route.Origin.{Origin}

-- a route as clauses see it
pub record RouteParts : Type 0 where
  pub prefix : PrefixParts
  pub next_hop : NextHop
  pub path : List ℕ
  pub origin : Origin
  pub local_preference : ℕ
  pub med : ℕ
  pub weight : ℕ
  pub communities : List Community

-- a next hop is an IPv4 address or the router's own one
abbrev pub IsNextHop : NextHop → Type 0
IsNextHop (At a) = (a.family ≡ V4) × (a.bits < 2 ^ 32)
IsNextHop Own = Unit {0}

-- the test 'in range': the values that an attribute of a route may have
pub record InRange (r : RouteParts) : Type 0 where
  pub family : r.prefix.address.family ≡ V4
  pub prefix : IsMasked r.prefix.address r.prefix.length
  pub next_hop : IsNextHop r.next_hop
  pub path : AllByRecursion (λ n. n < 2 ^ 32) r.path
  pub local_preference : r.local_preference < 2 ^ 32
  pub med : r.med < 2 ^ 32
  pub weight : r.weight < 2 ^ 16
  pub communities : AllByRecursion (λ c. c.0 < 2 ^ 32) r.communities
  pub ascending : IsAscending r.communities
