-- A node of a graph with the changes that are pending before it, and the node that settles it.
use Rattle.std.specs.Prelude.{◌≡◌, ℕ, ◌<◌, ◌==◌, Bool, true, ◌&&◌, List, length, Option, Some, if◌then◌else◌}
use Rattle.std.specs.HashMap.{HashMap, get}
use Rattle.std.specs.declared.hash.FoldHasher.{FoldHasher}
use Rattle.std.specs.declared.hash.BuildHasherDefault.{BuildHasherDefault}
use Rattle.route_types.specs.Route.{RouteParts, InRange}
use Rattle.route_types.specs.declared.route.Outcome.{Outcome}
use Rattle.pending_changes.specs.Pending.{route_behind}
use Rattle.pending_changes.specs.contracts.pending.PendingPartialEq.TheImpl as pending
use Rattle.core_nodes.specs.Outcome.{outcome_at}
use Rattle.core_nodes.specs.declared.node.NodeKind.{NodeKind}
use Rattle.policy_core.specs.Settled.{IsSettled}
use Rattle.route_types.specs.Community.{RectParts}
use Rattle.route_types.specs.declared.change.Change.{Change}
use Rattle.core_nodes.specs.declared.atom.Atom.{Atom}
use Rattle.settled_graph.specs.Said.{MaySay, says_at}
use Rattle.settled_graph.specs.declared.key.Key.{Key}

-- ---- what a key stands for

-- the outcome of the node behind what is pending
abbrev pub outcome_behind : List NodeKind → Key → RouteParts → Outcome
outcome_behind nodes k r = outcome_at nodes k.place (route_behind k.pending r)

-- a node of the new graph gives each arriving route that outcome, and no test follows a change
pub record Settles (old new : List NodeKind) (k : Key) (n : ℕ) : Type 0 where
  pub within : n < length new
  pub answers : (r : RouteParts) → InRange r → outcome_at new n r ≡ outcome_behind old k r
  pub settled : IsSettled new n
  -- what is said of all tests and changes is kept
  pub says : (on_atom : Atom → Bool) (on_value : Change → Bool) (on_rect : RectParts → Bool) → MaySay on_atom on_value on_rect old k → says_at on_atom on_value on_rect new n ≡ true

-- ---- which keys are settled already

-- whether two keys are of one node and of the same changes
abbrev pub same_key : Key → Key → Bool
same_key a b = a.place == b.place && pending.ghosts.eq a.pending b.pending

-- the nodes found so far
abbrev pub Memo : Type 0
Memo = HashMap Key ℕ (BuildHasherDefault FoldHasher)

-- the node that settles the key, if it was found
abbrev pub known : Memo → Key → Option ℕ
known memo k = get same_key memo k

abbrev pub IsKnown : Memo → Key → Type 0
IsKnown memo k = (n : ℕ) × (known memo k ≡ Some n)

-- the node is found for this key, and what was found for others stays
pub record Notes (old new : Memo) (k : Key) (n : ℕ) : Type 0 where
  pub there : known new k ≡ Some n
  pub others : (q : Key) → known new q ≡ (if same_key k q then Some n else known old q)

-- each node found settles its key
pub record IsSound (old new : List NodeKind) (memo : Memo) : Type 0 where
  pub settles : (k : Key) (n : ℕ) → known memo k ≡ Some n → Settles old new k n

-- each node found is one of the graph's
pub record AreWithin (new : List NodeKind) (memo : Memo) : Type 0 where
  pub within : (k : Key) (n : ℕ) → known memo k ≡ Some n → n < length new

-- the key is settled now, and those settled before still are
pub record IsNoted (old new : Memo) (k : Key) : Type 0 where
  pub there : IsKnown new k
  pub stays : (q : Key) → IsKnown old q → IsKnown new q
