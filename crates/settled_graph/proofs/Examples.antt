-- Worked examples that the checker computes: a test behind a change of what it tests.
use Rattle.std.proofs.Common.{◌≡◌, refl, ℕ, true, false, List, [], ◌∷◌, Some, None}
use Rattle.route_types.specs.Route.{RouteParts}
use Rattle.route_types.specs.declared.address.Family.TheVariants.{V4}
use Rattle.route_types.specs.declared.route.NextHop.TheVariants.{Own}
use Rattle.route_types.specs.declared.route.Origin.TheVariants.{Igp}
use Rattle.route_types.specs.declared.route.Outcome.TheVariants.{Accept, Reject}
use Rattle.route_types.specs.declared.change.Change.TheVariants.{Med}
use Rattle.pending_changes.specs.declared.pending.Pending.{Pending}
use Rattle.core_nodes.specs.Outcome.{outcome_at}
use Rattle.core_nodes.specs.declared.atom.Atom.TheVariants.{MedAtMost}
use Rattle.core_nodes.specs.declared.node.NodeKind.{NodeKind}
use Rattle.core_nodes.specs.declared.node.NodeKind.TheVariants.{Test, Do, Stop}
use Rattle.settled_graph.specs.Keys.{outcome_behind}

-- a route with this MED
abbrev with : ℕ → RouteParts
with med = record {
  prefix = record { address = record { family = V4; bits = 0 }; length = 0 };
  next_hop = Own;
  path = [];
  origin = Igp;
  local_preference = 100;
  med = med;
  weight = 0;
  communities = [];
}

-- places 0 accept, 1 reject, 2 a test, 3 a change before it
abbrev graph : List NodeKind
graph = Do (Med 50) 2 ∷ Test (MedAtMost 10) 0 1 ∷ Stop false ∷ Stop true ∷ []

abbrev med_set : Pending
med_set = record { local_preference = None; med = Some 50; weight = None; origin = None; next_hop = None; prepended = []; communities = None }

-- the arriving MED doesn't matter
changed_first : outcome_at graph 3 (with 5) ≡ Reject
unfolding outcome_at
changed_first = refl

-- and so it is behind the pending change
pending_first : outcome_behind graph (record { place = 2; pending = med_set }) (with 5) ≡ Reject
unfolding outcome_at
pending_first = refl

-- at an end the change is made
changed_last : outcome_behind graph (record { place = 0; pending = med_set }) (with 5) ≡ Accept (with 50)
unfolding outcome_at
changed_last = refl
