use Rattle.std.proofs.Common.{◌≡◌, length}
use Rattle.std.specs.List.{AllByRecursion}
use Rattle.path_patterns.specs.Items.{IsPath}
use Rattle.core_nodes.specs.Atoms.{path_answers}
use Rattle.route_types.specs.Route.{RouteParts}
use Rattle.rpl_plans.specs.Choices.{first_or}
use Rattle.rpl_plans.specs.Fits.{FitsChoice}
use Rattle.rpl_plans.specs.Holds.{planned_holds}
use Rattle.rpl_plans.proofs.paths.path_choices.Given as goal

abbrev pub invariant-loop-rest : goal.invariant-loop-rest
invariant-loop-rest l = record {
  holds : (r : RouteParts) → IsPath r.path → first_or (planned_holds r) l.found (path_answers l.rest r.path) ≡ path_answers l.entries r.path;
  fits : AllByRecursion FitsChoice l.found;
}

abbrev pub decreases-loop-rest : goal.decreases-loop-rest
decreases-loop-rest l = length l.rest
