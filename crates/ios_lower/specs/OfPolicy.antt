-- The atoms and changes of a policy: those that its tests and actions give.
use Rattle.std.specs.Prelude.{◌≡◌, ℕ, Bool, true, List, Some}
use Rattle.route_types.specs.declared.change.Change.{Change}
use Rattle.path_patterns.specs.Items.{SomeOf}
use Rattle.core_nodes.specs.declared.atom.Atom.{Atom}
use Rattle.core_nodes.specs.declared.node.NodeKind.{NodeKind}
use Rattle.core_nodes.specs.declared.node.NodeKind.TheVariants.{Test, Do, Stop}
use Rattle.ios_tree.specs.declared.item.IosItem.{IosItem}
use Rattle.ios_reader.specs.Entries.{Entry, entries_of}
use Rattle.ios_lower.specs.Atoms.{atom_of}
use Rattle.ios_lower.specs.Changes.{IsChangeOf}

-- some line of some entry tests it
abbrev pub IsTested : List IosItem → List Entry → Atom → Type 0
IsTested all es a = SomeOf (λ e. SomeOf (λ l. atom_of all l ≡ Some a) e.lines) es

-- it is a change of some line of some entry
abbrev pub IsSet : List IosItem → List Entry → Change → Type 0
IsSet all es c = SomeOf (λ e. SomeOf (λ l. IsChangeOf all l c) e.lines) es

-- a node tests and changes what entries do
abbrev pub IsOfEntries : List IosItem → List Entry → NodeKind → Type 0
IsOfEntries all es (Test a then other) = IsTested all es a
IsOfEntries all es (Do c next) = IsSet all es c
IsOfEntries all es (Stop accept) = Unit {0}

-- a node tests and changes what the route-map of this name does
abbrev pub IsOfPolicy : List IosItem → List ℕ → NodeKind → Type 0
IsOfPolicy all name k = IsOfEntries all (entries_of name all) k

-- each test and each change of the route-map of this name passes
pub record PolicySays (on_atom : Atom → Bool) (on_change : Change → Bool) (all : List IosItem) (name : List ℕ) : Type 0 where
  pub tests : (a : Atom) → IsTested all (entries_of name all) a → on_atom a ≡ true
  pub sets : (c : Change) → IsSet all (entries_of name all) c → on_change c ≡ true
