use Rattle.std.proofs.Common.{◌≡◌, ◌||◌, length}
use Rattle.std.specs.List.{AllByRecursion}
use Rattle.route_types.specs.Route.{RouteParts}
use Rattle.junos_plans.specs.Conditions.{condition_holds, entries_accept}
use Rattle.junos_plans.specs.Fits.{FitsValue, FitsValues, FitsEntry}
use Rattle.junos_plans.specs.Gathered.{some_holds}
use Rattle.junos_plans.proofs.gathered.gather_entries.Given as goal

abbrev pub invariant-loop-rest : goal.invariant-loop-rest
invariant-loop-rest l = record {
  holds : (r : RouteParts) → (some_holds r l.gathered || entries_accept (condition_holds r) l.rest) ≡ (some_holds r l.fn.gathered || entries_accept (condition_holds r) l.entries);
  fits : FitsValue FitsValues l.fn.gathered → AllByRecursion FitsEntry l.entries → FitsValue FitsValues l.gathered × AllByRecursion FitsEntry l.rest;
}

abbrev pub decreases-loop-rest : goal.decreases-loop-rest
decreases-loop-rest l = length l.rest
