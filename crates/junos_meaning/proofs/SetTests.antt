-- Tests of the communities of a set.
use Rattle.std.proofs.Common.{◌≡◌, sym, List}
use Rattle.std.specs.List.{list_any}
use Rattle.route_types.specs.Community.{RectParts, fits, number, set_of}
use Rattle.route_types.specs.declared.community.Community.{Community}
use Rattle.route_types.proofs.Sets.{any-set, same_community}

-- some community of the set of these fits where one of these does
pub fitted_in_set : (r : RectParts) (cs : List Community) → list_any (λ c. fits r c) cs ≡ list_any (λ c. fits r c) (set_of cs)
fitted_in_set r cs = sym (any-set number same_community (λ c. fits r c) cs)
