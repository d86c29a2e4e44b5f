-- Nodes that make changes one after the other, and end.
use Rattle.std.specs.Prelude.{◌≡◌, ◌<◌, ℕ, Bool, true, List, length}
use Rattle.std.specs.List.{list_all}
use Rattle.route_types.specs.Community.{RectParts}
use Rattle.route_types.specs.Change.{changed_by}
use Rattle.route_types.specs.Route.{RouteParts}
use Rattle.route_types.specs.declared.change.Change.{Change}
use Rattle.pending_changes.specs.Pending.{route_behind, PendingSays}
use Rattle.pending_changes.specs.declared.pending.Pending.{Pending}
use Rattle.core_nodes.specs.Made.{Keeps}
use Rattle.core_nodes.specs.Outcome.{ended, outcome_at}
use Rattle.core_nodes.specs.declared.atom.Atom.{Atom}
use Rattle.core_nodes.specs.declared.node.NodeKind.{NodeKind}
use Rattle.policy_core.specs.Guards.{said_at}
use Rattle.policy_core.specs.Settled.{IsUntested, IsSettled}
use Rattle.settled_graph.specs.Said.{says_at}

-- a node behind which those of the changes are made that are not left
pub record Acts (old now : List NodeKind) (changes left : List Change) (next n : ℕ) : Type 0 where
  pub within : n < length now
  pub keeps : Keeps old now
  pub answers : (r : RouteParts) → outcome_at now n (changed_by left r) ≡ outcome_at old next (changed_by changes r)
  pub untested : IsUntested old next → IsUntested now n
  pub settled : IsUntested old next → IsSettled old next → IsSettled now n
  pub says : (on_atom : Atom → Bool) (on_change : Change → Bool) → list_all on_change changes ≡ true → said_at on_atom on_change old next ≡ true → (list_all on_change left ≡ true) × (said_at on_atom on_change now n ≡ true)

-- a node that makes what is pending, and accepts or rejects
pub record EndsBehind (old new : List NodeKind) (accept : Bool) (p : Pending) (n : ℕ) : Type 0 where
  pub within : n < length new
  pub keeps : Keeps old new
  pub answers : (r : RouteParts) → outcome_at new n r ≡ ended accept (route_behind p r)
  pub settled : IsSettled new n
  pub says : (on_atom : Atom → Bool) (on_value : Change → Bool) (on_rect : RectParts → Bool) → PendingSays on_value on_rect p → says_at on_atom on_value on_rect new n ≡ true
