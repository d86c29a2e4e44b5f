use Rattle.std.proofs.Common.{◌≡◌, ◌&&◌, length}
use Rattle.std.specs.Prelude.{not}
use Rattle.route_types.specs.Community.{fits}
use Rattle.route_types.specs.Sets.{fits_some}
use Rattle.route_types.specs.declared.community.Community.{Community}
use Rattle.community_sets.proofs.left.rest.Given as goal

abbrev pub decreases-loop-ahead : goal.decreases-loop-ahead
decreases-loop-ahead l = length l.ahead

abbrev pub invariant-loop-ahead : goal.invariant-loop-ahead
invariant-loop-ahead l = (c : Community) → (fits_some fits l.left.items c && not (fits_some fits l.ahead c)) ≡ (fits l.rect c && not (fits_some fits l.removed c))
