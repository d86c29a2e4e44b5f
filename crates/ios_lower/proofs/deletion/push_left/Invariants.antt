use Rattle.std.proofs.Common.{◌≡◌, ◌||◌, ◌&&◌, not, length}
use Rattle.route_types.specs.Community.{fits}
use Rattle.route_types.specs.Sets.{fits_some}
use Rattle.route_types.specs.declared.community.Community.{Community}
use Rattle.ios_lower.proofs.deletion.push_left.Given as goal

abbrev pub invariant-loop-ahead : goal.invariant-loop-ahead
invariant-loop-ahead l = (c : Community) → (fits_some fits l.removed.items c || (fits_some fits l.ahead c && not (fits_some fits l.kept c))) ≡ (fits_some fits l.initial.removed.items c || (fits_some fits l.rects c && not (fits_some fits l.kept c)))

abbrev pub decreases-loop-ahead : goal.decreases-loop-ahead
decreases-loop-ahead l = length l.ahead
