-- What a graph is: its nodes, the newest first, and the facts that they keep. A node's place is how many
-- nodes are older.
use Rattle.std.specs.Prelude.{◌≢◌, ℕ, ◌<◌, ◌==◌, List, [], ◌∷◌, length, Option, Some, None, if◌then◌else◌}
use Rattle.std.specs.List.{AllByRecursion}
use Rattle.core_nodes.specs.declared.node.NodeKind.{NodeKind}
use Rattle.core_nodes.specs.declared.node.NodeKind.TheVariants.{Test, Do, Stop}

-- the node at a place
unfoldable pub kind_at : List NodeKind → ℕ → Option NodeKind
kind_at [] p = None
kind_at (k ∷ older) p = if p == length older then Some k else kind_at older p

-- the places that a node leads to
abbrev pub children : NodeKind → List ℕ
children (Test a met unmet) = met ∷ unmet ∷ []
children (Do c next) = next ∷ []
children (Stop accept) = []

-- a node fits the older nodes
pub record FitsOn (older : List NodeKind) (k : NodeKind) : Type 0 where
  -- its children stand before it
  pub before : AllByRecursion (λ p. p < length older) (children k)
  -- no node stands twice
  pub once : (p : ℕ) → kind_at older p ≢ Some k

-- the nodes of a graph: each fits those before it
unfoldable pub AreNodes : List NodeKind → Type 0
AreNodes [] = Unit {0}
AreNodes (k ∷ older) = FitsOn older k × AreNodes older
