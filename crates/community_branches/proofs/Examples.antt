-- Worked examples that the checker computes.
use Rattle.std.proofs.Common.{◌≡◌, refl, ℕ, ◌+◌, ◌*◌, true, false, List, [], ◌∷◌, map}
use Rattle.route_types.specs.declared.community.Community.{Community}
use Rattle.route_types.specs.declared.community.CommChange.{CommChange}
use Rattle.route_types.specs.declared.route.NextHop.TheVariants.{Own}
use Rattle.route_types.specs.declared.route.Origin.TheVariants.{Igp}
use Rattle.route_types.specs.declared.address.Family.TheVariants.{V4}
use Rattle.route_types.specs.Route.{RouteParts}
use Rattle.community_branches.specs.Asked.{point}
use Rattle.community_branches.specs.Branches.{all_fitted_behind}
use Rattle.community_branches.specs.Tests.{exactly_behind, others_behind}

abbrev of : ℕ → ℕ → Community
of high low = record { 0 = high * 65536 + low }

abbrev with : List Community → RouteParts
with set = record {
  prefix = record { address = record { family = V4; bits = 0 }; length = 0 };
  next_hop = Own;
  path = [];
  origin = Igp;
  local_preference = 100;
  med = 0;
  weight = 0;
  communities = set;
}

-- 65001:1 is removed; the test asks for 65002:9 and no other
abbrev change : CommChange
change = record { removed = point (of 65001 1) ∷ []; added = [] }

abbrev members : List Community
members = of 65002 9 ∷ []

-- what is removed may be there
both : exactly_behind change members (with (of 65001 1 ∷ of 65002 9 ∷ [])) ≡ true
both = refl

both_asked : others_behind change (map point members) (with (of 65001 1 ∷ of 65002 9 ∷ [])) ≡ true
both_asked = refl

-- another one may not
stranger : others_behind change (map point members) (with (of 65001 2 ∷ of 65002 9 ∷ [])) ≡ false
stranger = refl

-- and the member has to be there
missing : all_fitted_behind change (map point members) (with (of 65001 1 ∷ [])) ≡ false
missing = refl
