use Rattle.std.proofs.Common.{◌≡◌, subst, List}
use Rattle.std.specs.Prelude.{map}
use Rattle.std.specs.List.{list_all}
use Rattle.std.specs.Borrow.{Bor}
use Rattle.route_types.specs.Route.{RouteParts}
use Rattle.path_patterns.specs.Items.{IsPath}
use Rattle.core_nodes.specs.Atoms.{atom_holds}
use Rattle.ios_tree.specs.declared.item.MapLine.{MapLine}
use Rattle.ios_meaning.specs.Drafts.{entry_of}
use Rattle.ios_meaning.specs.Meaning.{line_holds}
use Rattle.ios_lower.specs.Atoms.{atoms_of}
use Rattle.ios_graph.proofs.Lowered.{entry_tested}
use Rattle.ios_graph.proofs.lower.lower_tests.Goals as goal

pub returns : goal.returns
returns c =
    entry_tested c.args.lists.now.items.now (entry_of c.args.entry.now) c.args.core.now c.test_all.new.core c.in_ok-atoms.atoms.items c.args.body c.args.other c.in_ok-node.node
    (subst (λ (ls : List (Bor MapLine)). c.in_ok-atoms.atoms.items ≡ atoms_of c.args.lists.now.items.now (map (λ l. l.now) ls)) c.as_slice.ensures.value c.in_ok-atoms.ensures.same)
    (subst (λ (ls : List (Bor MapLine)). (r : RouteParts) → IsPath r.path → list_all (λ a. atom_holds a r) c.in_ok-atoms.atoms.items ≡ list_all (line_holds c.args.lists.now.items.now r) (map (λ l. l.now) ls)) c.as_slice.ensures.value c.in_ok-atoms.ensures.holds)
    c.in_ok-node.ensures
