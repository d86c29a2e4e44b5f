-- Where no path test follows a prepend, and no community test a change of the communities: the tests of entries, and the
-- changes of those behind which the run goes on.
use Rattle.std.specs.Prelude.{◌≡◌, ℕ, Bool, true, List, [], ◌∷◌}
use Rattle.std.specs.List.{list_any, list_all}
use Rattle.route_types.specs.declared.change.Change.{Change}
use Rattle.core_nodes.specs.declared.node.NodeKind.{NodeKind}
use Rattle.policy_core.specs.Apart.{Touched, touched_by, apart_at}
use Rattle.ios_tree.specs.declared.item.IosItem.{IosItem}
use Rattle.ios_reader.specs.Entries.{Entry}
use Rattle.ios_reader.specs.Lines.{continues}
use Rattle.ios_lower.specs.Atoms.{atoms_of}
use Rattle.ios_lower.specs.Chains.{are_apart}
use Rattle.ios_lower.specs.ChangeSteps.{IsOfLines}
use Rattle.ios_graph.specs.Rows.{node_from}
use Rattle.ios_graph.specs.declared.rows.Rows.{Rows}

-- no test of the entry asks for what was touched
abbrev pub entry_apart : List IosItem → Touched → Entry → Bool
entry_apart all t e = are_apart (atoms_of all e.lines) t

-- no test of the entries does
abbrev pub entries_apart : List IosItem → List Entry → Touched → Bool
entries_apart all es t = list_all (entry_apart all t) es

-- if the entry continues, its changes touch nothing that the entries behind it ask for
abbrev pub StaysApart : List IosItem → Entry → List Entry → Type 0
StaysApart all e behind = list_any continues e.lines ≡ true → (c : Change) → IsOfLines all e.lines c → (t : Touched) → entries_apart all behind t ≡ true → entries_apart all behind (touched_by c t) ≡ true

-- each of the entries touches nothing that those behind it ask for
abbrev pub EachStaysApart : List IosItem → List Entry → Type 0
EachStaysApart all [] = Unit {0}
EachStaysApart all (e ∷ es) = StaysApart all e es × EachStaysApart all es

-- no node of the rows of these entries leads to a test that asks for what was touched, where none of the entries does
pub record AreRowsApart (all : List IosItem) (es : List Entry) (nodes : List NodeKind) (rows : Rows) : Type 0 where
  pub accepted : (t : Touched) → apart_at nodes rows.accepted t ≡ true
  pub rejected : (t : Touched) → apart_at nodes rows.rejected t ≡ true
  pub none_held : EachStaysApart all es → (t : Touched) → entries_apart all es t ≡ true → apart_at nodes rows.none_held t ≡ true
  pub some_held : EachStaysApart all es → (n : ℕ) → (t : Touched) → entries_apart all es t ≡ true → apart_at nodes (node_from n rows.accepted rows.some_held.items) t ≡ true
