use Rattle.std.proofs.Common.{◌≡◌, true, length}
use Rattle.std.specs.List.{list_all}
use Rattle.policy_core.specs.Sayable.{junos_change}
use Rattle.route_types.specs.Change.{changed_by}
use Rattle.route_types.specs.Route.{RouteParts}
use Rattle.junos_plans.specs.Changes.{changed_as}
use Rattle.junos_plans.specs.Fits.{FitsChanges}
use Rattle.junos_plans.proofs.changes.planned_changes.Given as goal

abbrev pub invariant-loop-rest : goal.invariant-loop-rest
invariant-loop-rest l = record {
  acts : (r : RouteParts) → changed_by l.rest (changed_as l.planned r) ≡ changed_by l.changes r;
  fits : FitsChanges l.planned;
  sayable : list_all junos_change l.rest ≡ true;
}

abbrev pub decreases-loop-rest : goal.decreases-loop-rest
decreases-loop-rest l = length l.rest
