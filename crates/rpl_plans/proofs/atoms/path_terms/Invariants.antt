use Rattle.std.proofs.Common.{◌≡◌, ◌||◌, length}
use Rattle.std.specs.List.{list_any, AllByRecursion}
use Rattle.path_patterns.specs.Items.{IsPath}
use Rattle.core_nodes.specs.Atoms.{path_answers}
use Rattle.route_types.specs.Route.{RouteParts}
use Rattle.rpl_plans.specs.Choices.{term_holds}
use Rattle.rpl_plans.specs.Fits.{FitsTerm}
use Rattle.rpl_plans.specs.Holds.{planned_holds}
use Rattle.rpl_plans.proofs.atoms.path_terms.Given as goal

abbrev pub invariant-loop-rest : goal.invariant-loop-rest
invariant-loop-rest l = record {
  holds : (r : RouteParts) → IsPath r.path → (list_any (term_holds (planned_holds r)) l.found || list_any (λ k. path_answers k.entries r.path) l.rest) ≡ list_any (λ k. path_answers k.entries r.path) l.lists;
  fits : AllByRecursion FitsTerm l.found;
}

abbrev pub decreases-loop-rest : goal.decreases-loop-rest
decreases-loop-rest l = length l.rest
