use Rattle.std.proofs.Common.{◌≡◌, ◌&&◌, true, length}
use Rattle.std.specs.List.{list_all}
use Rattle.policy_core.specs.Guards.{guard_holds}
use Rattle.policy_core.specs.Sayable.{junos_atom}
use Rattle.route_types.specs.Route.{RouteParts, InRange}
use Rattle.junos_plans.specs.Conditions.{condition_holds}
use Rattle.junos_plans.specs.Fits.{FitsGuard}
use Rattle.junos_plans.specs.Plans.{guard_says}
use Rattle.junos_plans.proofs.guards.planned_guard.Given as goal

abbrev pub invariant-loop-rest : goal.invariant-loop-rest
invariant-loop-rest l = record {
  says : (r : RouteParts) → InRange r → (guard_says (condition_holds r) l.planned && guard_holds l.rest r) ≡ guard_holds l.guard r;
  fits : FitsGuard l.planned;
  sayable : list_all (λ k. junos_atom k.atom) l.rest ≡ true;
}

abbrev pub decreases-loop-rest : goal.decreases-loop-rest
decreases-loop-rest l = length l.rest
