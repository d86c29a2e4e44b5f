-- A graph while the entries of a route-map are put into it, from the last one on.
use Rattle.std.specs.Prelude.{◌≡◌, ◌<◌, ℕ, Bool, true, List, [], ◌∷◌, length}
use Rattle.std.specs.List.{AllByRecursion}
use Rattle.route_types.specs.Route.{RouteParts, InRange}
use Rattle.route_types.specs.declared.route.Outcome.TheVariants.{Reject}
use Rattle.core_nodes.specs.Made.{Keeps}
use Rattle.core_nodes.specs.Outcome.{outcome_at}
use Rattle.core_nodes.specs.declared.atom.Atom.{Atom}
use Rattle.core_nodes.specs.declared.node.NodeKind.{NodeKind}
use Rattle.route_types.specs.declared.change.Change.{Change}
use Rattle.policy_core.specs.Guards.{said_at}
use Rattle.policy_core.specs.Settled.{IsSettled}
use Rattle.ios_tree.specs.declared.item.IosItem.{IosItem}
use Rattle.ios_reader.specs.Entries.{Entry}
use Rattle.ios_meaning.specs.Meaning.{ios_meaning}
use Rattle.ios_lower.specs.ChangeSteps.{IsTestable}
use Rattle.ios_lower.specs.Grows.{Grows}
use Rattle.ios_lower.specs.OfPolicy.{IsOfEntries, IsOfPolicy, PolicySays}
use Rattle.ios_lower.specs.Runs.{given_by, entry_or, entries_or}

-- a node gives what an entry gives the routes for which it holds
pub record IsBody (all : List IosItem) (e : Entry) (old new : List NodeKind) (n : ℕ) : Type 0 where
  pub within : n < length new
  pub grows : Grows (IsOfEntries all (e ∷ [])) old new
  pub keeps : Keeps old new
  pub settled : IsSettled new n
  pub answers : (r : RouteParts) → IsTestable r → outcome_at new n r ≡ given_by all e r

-- a node gives what an entry gives, or else what a node behind it gives
pub record IsEntry (all : List IosItem) (e : Entry) (old new : List NodeKind) (behind n : ℕ) : Type 0 where
  pub within : n < length new
  pub grows : Grows (IsOfEntries all (e ∷ [])) old new
  pub settled : IsSettled old behind → IsSettled new n
  pub answers : (r : RouteParts) → InRange r → outcome_at new n r ≡ entry_or all e r (outcome_at old behind r)

-- a node gives what the entries give that are not left
pub record AreLowered (all : List IosItem) (es left : List Entry) (nodes : List NodeKind) (n : ℕ) : Type 0 where
  pub within : n < length nodes
  pub settled : IsSettled nodes n
  pub says : AllByRecursion (IsOfEntries all es) nodes
  pub answers : (r : RouteParts) → InRange r → entries_or all left r (outcome_at nodes n r) ≡ entries_or all es r Reject
  pub among : (k : NodeKind) → IsOfEntries all left k → IsOfEntries all es k

-- a node gives what the route-map of this name in a tree gives
pub record IsPolicyNode (all : List IosItem) (name : List ℕ) (nodes : List NodeKind) (n : ℕ) : Type 0 where
  pub of_core : n < length nodes
  pub settled : IsSettled nodes n
  pub says : AllByRecursion (IsOfPolicy all name) nodes
  pub said : (on_atom : Atom → Bool) (on_change : Change → Bool) → PolicySays on_atom on_change all name → said_at on_atom on_change nodes n ≡ true
  pub meaning : (r : RouteParts) → InRange r → outcome_at nodes n r ≡ ios_meaning all name r
