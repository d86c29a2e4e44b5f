-- What is made of a node by a recursion over the older nodes: one fold for all of them but the outcome.
use Rattle.std.specs.Prelude.{ℕ, ◌==◌, true, false, List, [], ◌∷◌, length}
use Rattle.core_nodes.specs.declared.node.NodeKind.{NodeKind}

-- what is made of the node at a place, from what is made of its children; `none` where no node is
unfoldable pub fold_at : {A : Type 0} → A → ((ℕ → A) → NodeKind → A) → List NodeKind → ℕ → A
fold_at none make [] p = none
fold_at none make (k ∷ older) p = elim (p == length older) [ true ↦ make (fold_at none make older) k | false ↦ fold_at none make older p ]
