-- What a new node leaves as it was, and what is known of a node.
use Rattle.std.specs.Prelude.{◌≡◌, ◌⊎◌, ℕ, ◌<◌, List, ◌∷◌, ◌++◌, length, Some}
use Rattle.std.specs.List.{AllByRecursion}
use Rattle.route_types.specs.Route.{RouteParts}
use Rattle.core_nodes.specs.Nodes.{kind_at, children, AreNodes}
use Rattle.core_nodes.specs.Outcome.{answer_of, outcome_at}
use Rattle.core_nodes.specs.declared.node.NodeKind.{NodeKind}

-- the node at a place, what it leads to, and the outcome that it gives
pub record IsAt (nodes : List NodeKind) (p : ℕ) (k : NodeKind) : Type 0 where
  -- the place is one of the graph's
  pub within : p < length nodes
  pub there : kind_at nodes p ≡ Some k
  pub before : AllByRecursion (λ child. child < p) (children k)
  pub answers : (r : RouteParts) → outcome_at nodes p r ≡ answer_of (outcome_at nodes) k r

-- there are the older nodes and maybe newer ones: the older keep their places, and the outcomes that they give
pub record Keeps (old new : List NodeKind) : Type 0 where
  -- the newer nodes
  pub more : List NodeKind
  pub grown : new ≡ more ++ old
  pub longer : (p : ℕ) → p < length old → p < length new
  pub kinds : (p : ℕ) → p < length old → kind_at new p ≡ kind_at old p
  pub answers : (p : ℕ) → p < length old → (r : RouteParts) → outcome_at new p r ≡ outcome_at old p r

-- a graph with the node at the place is as before, or one node longer
pub record IsMade (old new : List NodeKind) (k : NodeKind) (p : ℕ) : Type 0 where
  pub at : IsAt new p k
  pub grown : (new ≡ old) ⊎ (new ≡ k ∷ old)
  -- the graph keeps its facts
  pub facts : AreNodes new
  -- the outcome of the node, by those of its children before
  pub answers : (r : RouteParts) → outcome_at new p r ≡ answer_of (outcome_at old) k r
