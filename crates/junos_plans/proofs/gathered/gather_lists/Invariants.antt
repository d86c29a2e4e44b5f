use Rattle.std.proofs.Common.{◌≡◌, ◌||◌, length}
use Rattle.std.specs.List.{list_any, AllByRecursion}
use Rattle.route_types.specs.Route.{RouteParts}
use Rattle.junos_plans.specs.Conditions.{condition_holds, entries_accept}
use Rattle.junos_plans.specs.Fits.{FitsValue, FitsValues, FitsList}
use Rattle.junos_plans.specs.Gathered.{some_holds}
use Rattle.junos_plans.proofs.gathered.gather_lists.Given as goal

abbrev pub invariant-loop-rest : goal.invariant-loop-rest
invariant-loop-rest l = record {
  holds : (r : RouteParts) →
      (some_holds r l.gathered || list_any (λ k. entries_accept (condition_holds r) k.entries) l.rest) ≡ (some_holds r l.fn.gathered || list_any (λ k. entries_accept (condition_holds r) k.entries) l.lists);
  fits : FitsValue FitsValues l.fn.gathered → AllByRecursion FitsList l.lists → FitsValue FitsValues l.gathered × AllByRecursion FitsList l.rest;
}

abbrev pub decreases-loop-rest : goal.decreases-loop-rest
decreases-loop-rest l = length l.rest
