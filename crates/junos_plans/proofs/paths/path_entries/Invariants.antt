use Rattle.std.proofs.Common.{◌≡◌, length}
use Rattle.std.specs.List.{AllByRecursion}
use Rattle.path_patterns.specs.Items.{IsPath}
use Rattle.core_nodes.specs.Atoms.{path_answers}
use Rattle.route_types.specs.Route.{RouteParts}
use Rattle.junos_plans.specs.Conditions.{condition_holds, accept_or}
use Rattle.junos_plans.specs.Fits.{FitsEntry}
use Rattle.junos_plans.proofs.paths.path_entries.Given as goal

abbrev pub invariant-loop-rest : goal.invariant-loop-rest
invariant-loop-rest l = record {
  holds : (r : RouteParts) → IsPath r.path → accept_or (condition_holds r) l.found (path_answers l.rest r.path) ≡ path_answers l.entries r.path;
  fits : AllByRecursion FitsEntry l.found;
}

abbrev pub decreases-loop-rest : goal.decreases-loop-rest
decreases-loop-rest l = length l.rest
