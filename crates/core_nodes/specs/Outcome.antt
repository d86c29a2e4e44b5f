-- Which outcome a node gives a route: a test reads the route as changed so far.
use Rattle.std.specs.Prelude.{ℕ, ◌==◌, Bool, true, false, List, [], ◌∷◌, length, if◌then◌else◌}
use Rattle.route_types.specs.Route.{RouteParts}
use Rattle.route_types.specs.Change.{changed}
use Rattle.route_types.specs.declared.route.Outcome.{Outcome}
use Rattle.route_types.specs.declared.route.Outcome.TheVariants.{Accept, Reject}
use Rattle.core_nodes.specs.Atoms.{atom_holds}
use Rattle.core_nodes.specs.declared.node.NodeKind.{NodeKind}
use Rattle.core_nodes.specs.declared.node.NodeKind.TheVariants.{Test, Do, Stop}

-- the route is accepted, or rejected
abbrev pub ended : Bool → RouteParts → Outcome
ended true r = Accept r
ended false r = Reject

-- the outcome of a node, from that of its children
abbrev pub answer_of : (ℕ → RouteParts → Outcome) → NodeKind → RouteParts → Outcome
answer_of child (Test a met unmet) r = child (if atom_holds a r then met else unmet) r
answer_of child (Do c next) r = child next (changed c r)
answer_of child (Stop accept) r = ended accept r

-- the outcome of the node at a place, by recursion over the older nodes
unfoldable pub outcome_at : List NodeKind → ℕ → RouteParts → Outcome
outcome_at [] p r = Reject
outcome_at (k ∷ older) p r = elim (p == length older) [ true ↦ answer_of (outcome_at older) k r | false ↦ outcome_at older p r ]
