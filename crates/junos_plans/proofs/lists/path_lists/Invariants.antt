use Rattle.std.proofs.Common.{◌≡◌, ◌||◌, length}
use Rattle.std.specs.List.{list_any, AllByRecursion}
use Rattle.path_patterns.specs.Items.{IsPath}
use Rattle.core_nodes.specs.Atoms.{path_answers}
use Rattle.route_types.specs.Route.{RouteParts}
use Rattle.junos_plans.specs.Conditions.{condition_holds, entries_accept}
use Rattle.junos_plans.specs.Fits.{FitsList}
use Rattle.junos_plans.proofs.lists.path_lists.Given as goal

abbrev pub invariant-loop-rest : goal.invariant-loop-rest
invariant-loop-rest l = record {
  holds : (r : RouteParts) → IsPath r.path → (list_any (λ k. entries_accept (condition_holds r) k.entries) l.found || list_any (λ k. path_answers k.entries r.path) l.rest) ≡ list_any (λ k. path_answers k.entries r.path) l.lists;
  fits : AllByRecursion FitsList l.found;
}

abbrev pub decreases-loop-rest : goal.decreases-loop-rest
decreases-loop-rest l = length l.rest
