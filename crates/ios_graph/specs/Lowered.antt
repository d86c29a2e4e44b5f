-- A graph while the entries of a route-map are put into it, from the last one on.
use Rattle.std.specs.Prelude.{◌≡◌, ◌≤◌, ◌<◌, ℕ, Bool, true, false, List, [], ◌∷◌, ◌++◌, length}
use Rattle.std.specs.List.{AllByRecursion}
use Rattle.route_types.specs.Route.{RouteParts, InRange}
use Rattle.route_types.specs.declared.change.Change.{Change}
use Rattle.route_types.specs.declared.route.Outcome.{Outcome}
use Rattle.route_types.specs.declared.route.Outcome.TheVariants.{Reject, Accept}
use Rattle.core_nodes.specs.Made.{Keeps}
use Rattle.core_nodes.specs.Outcome.{outcome_at}
use Rattle.core_nodes.specs.declared.atom.Atom.{Atom}
use Rattle.core_nodes.specs.declared.node.NodeKind.{NodeKind}
use Rattle.policy_core.specs.Apart.{Touched, untouched, touched_by, apart_at}
use Rattle.policy_core.specs.Guards.{said_at}
use Rattle.ios_tree.specs.declared.item.IosItem.{IosItem}
use Rattle.ios_reader.specs.Entries.{Entry}
use Rattle.ios_meaning.specs.Meaning.{entry_holds, set_by_entry, continuation_of, ios_meaning}
use Rattle.ios_readings.specs.AtOnce.{run_at_once, from_number}
use Rattle.ios_lower.specs.ChangeSteps.{IsTestable, IsOfLines}
use Rattle.ios_lower.specs.Grows.{Grows}
use Rattle.ios_lower.specs.OfPolicy.{IsOfEntries, IsOfPolicy, PolicySays}
use Rattle.ios_graph.specs.Apart.{entry_apart, AreRowsApart}
use Rattle.ios_graph.specs.Rows.{node_from, node_behind, Falls}
use Rattle.ios_graph.specs.declared.rows.Rows.{Rows}

-- a node gives the routes that lists can be asked about what the function gives them
abbrev pub Gives : List NodeKind → ℕ → (RouteParts → Outcome) → Type 0
Gives nodes n f = (r : RouteParts) → IsTestable r → outcome_at nodes n r ≡ f r

-- the nodes of the rows are the graph's
pub record AreWithin (nodes : List NodeKind) (rows : Rows) : Type 0 where
  pub accepted : rows.accepted < length nodes
  pub rejected : rows.rejected < length nodes
  pub none_held : rows.none_held < length nodes
  pub some_held : (n : ℕ) → node_from n rows.accepted rows.some_held.items < length nodes
  pub falls : Falls rows.some_held.items

-- the nodes of the rows give what the run over these entries gives
pub record AreRows (all : List IosItem) (es : List Entry) (nodes : List NodeKind) (rows : Rows) : Type 0 where
  pub within : AreWithin nodes rows
  pub accepted : Gives nodes rows.accepted (λ r. Accept r)
  pub rejected : Gives nodes rows.rejected (λ r. Reject)
  pub none_held : Gives nodes rows.none_held (λ r. run_at_once all false 0 es r)
  pub some_held : (n : ℕ) → Gives nodes (node_from n rows.accepted rows.some_held.items) (λ r. run_at_once all true 0 (from_number n es) r)
  pub above : (n : ℕ) → AllByRecursion (λ e. n ≤ e.number) es → AllByRecursion (λ t. n ≤ t.number) rows.some_held.items
  pub apart : AreRowsApart all es nodes rows

-- a node gives what an entry gives the routes for which it holds: it rejects them, or makes the entry's changes and goes on
pub record IsBody (all : List IosItem) (e : Entry) (rows : Rows) (old new : List NodeKind) (n : ℕ) : Type 0 where
  pub within : n < length new
  pub grows : Grows (IsOfEntries all (e ∷ [])) old new
  pub keeps : Keeps old new
  pub answers : Gives new n (λ r. elim e.permit [ true ↦ outcome_at old (node_behind rows (continuation_of e.lines)) (set_by_entry all e r) | false ↦ outcome_at old rows.rejected r ])
  pub stays : (r : RouteParts) → IsTestable r → e.permit ≡ true → IsTestable (set_by_entry all e r)
  -- where no change of the entry makes a test fail, and nothing that passes it is asked for behind them, nothing that passes it is asked for
  pub apart : (test : Touched → Bool) → ((c : Change) → IsOfLines all e.lines c → (t : Touched) → test t ≡ true → test (touched_by c t) ≡ true)
      → ((t : Touched) → test t ≡ true → apart_at old (node_behind rows (continuation_of e.lines)) t ≡ true) → ((t : Touched) → apart_at old rows.rejected t ≡ true) → (t : Touched) → test t ≡ true → apart_at new n t ≡ true

-- a node goes to the body where the entry holds, and else to the other one
pub record IsTested (all : List IosItem) (e : Entry) (old new : List NodeKind) (body other n : ℕ) : Type 0 where
  pub within : n < length new
  pub grows : Grows (IsOfEntries all (e ∷ [])) old new
  pub keeps : Keeps old new
  pub answers : Gives new n (λ r. elim (entry_holds all r e) [ true ↦ outcome_at old body r | false ↦ outcome_at old other r ])
  pub apart : (t : Touched) → entry_apart all t e ≡ true → apart_at old body t ≡ true → apart_at old other t ≡ true → apart_at new n t ≡ true

-- the entries that are not left are in the graph
pub record AreLowered (all : List IosItem) (es left : List Entry) (nodes : List NodeKind) (rows : Rows) : Type 0 where
  pub behind : List Entry
  pub parts : es ≡ left ++ behind
  pub says : AllByRecursion (IsOfEntries all es) nodes
  pub right : AreRows all behind nodes rows

-- a node gives what the route-map of this name in a tree gives
pub record IsPolicyNode (all : List IosItem) (name : List ℕ) (nodes : List NodeKind) (n : ℕ) : Type 0 where
  pub of_core : n < length nodes
  pub apart : apart_at nodes n untouched ≡ true
  pub says : AllByRecursion (IsOfPolicy all name) nodes
  pub said : (on_atom : Atom → Bool) (on_change : Change → Bool) → PolicySays on_atom on_change all name → said_at on_atom on_change nodes n ≡ true
  pub meaning : (r : RouteParts) → InRange r → outcome_at nodes n r ≡ ios_meaning all name r
