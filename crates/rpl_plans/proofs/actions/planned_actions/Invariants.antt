use Rattle.std.proofs.Common.{◌≡◌, true, length}
use Rattle.std.specs.List.{list_all}
use Rattle.policy_core.specs.Sayable.{rpl_change}
use Rattle.route_types.specs.Change.{changed_by}
use Rattle.route_types.specs.Route.{RouteParts}
use Rattle.rpl_plans.specs.Actions.{acted_by}
use Rattle.rpl_plans.specs.Fits.{FitsActions}
use Rattle.rpl_plans.proofs.actions.planned_actions.Given as goal

abbrev pub invariant-loop-rest : goal.invariant-loop-rest
invariant-loop-rest l = record {
  acts : (r : RouteParts) → changed_by l.rest (acted_by l.planned r) ≡ changed_by l.changes r;
  fits : list_all rpl_change l.changes ≡ true → FitsActions l.planned × (list_all rpl_change l.rest ≡ true);
}

abbrev pub decreases-loop-rest : goal.decreases-loop-rest
decreases-loop-rest l = length l.rest
