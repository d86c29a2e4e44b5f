use Rattle.std.proofs.Common.{◌≡◌, length}
use Rattle.route_types.specs.Route.{RouteParts}
use Rattle.route_types.specs.Change.{changed_by}
use Rattle.pending_changes.specs.Pending.{route_behind}
use Rattle.pending_changes.proofs.pending.pending_of.Given as goal

abbrev pub invariant-loop-rest : goal.invariant-loop-rest
invariant-loop-rest l = (r : RouteParts) → changed_by l.rest (route_behind l.pending r) ≡ changed_by l.changes r

abbrev pub decreases-loop-rest : goal.decreases-loop-rest
decreases-loop-rest l = length l.rest
