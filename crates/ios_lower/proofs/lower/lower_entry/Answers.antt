use Rattle.std.proofs.Common.{◌≡◌, subst, List}
use Rattle.std.specs.Prelude.{map}
use Rattle.std.specs.List.{list_all}
use Rattle.std.specs.Borrow.{Bor}
use Rattle.route_types.specs.Route.{RouteParts}
use Rattle.path_patterns.specs.Items.{IsPath}
use Rattle.core_nodes.specs.Atoms.{atom_holds}
use Rattle.ios_tree.specs.declared.item.MapLine.{MapLine}
use Rattle.ios_meaning.specs.Drafts.{entry_of}
use Rattle.ios_meaning.specs.Meaning.{line_holds}
use Rattle.ios_lower.specs.Atoms.{atoms_of}
use Rattle.ios_lower.proofs.Lowered.{entry_tested}
use Rattle.ios_lower.proofs.lower.lower_entry.Goals as goal

pub test_all-requires-clause-of_yes : goal.test_all-requires-clause-of_yes
test_all-requires-clause-of_yes c = c.in_ok-body.ensures.within

pub test_all-requires-clause-of_no : goal.test_all-requires-clause-of_no
test_all-requires-clause-of_no c = c.in_ok-body.ensures.keeps.longer c.args.behind c.requires.of_core

pub returns : goal.returns
returns c =
    entry_tested c.args.lists.now.items.now (entry_of c.args.entry.now) c.args.core.now c.lower_body.new.core c.test_all.new.core c.in_ok-atoms.atoms.items c.in_ok-body.body c.args.behind c.in_ok-node.node c.requires.of_core c.in_ok-body.ensures
    (subst (λ (ls : List (Bor MapLine)). c.in_ok-atoms.atoms.items ≡ atoms_of c.args.lists.now.items.now (map (λ l. l.now) ls)) c.as_slice.ensures.value c.in_ok-atoms.ensures.same)
    (subst (λ (ls : List (Bor MapLine)). (r : RouteParts) → IsPath r.path → list_all (λ a. atom_holds a r) c.in_ok-atoms.atoms.items ≡ list_all (line_holds c.args.lists.now.items.now r) (map (λ l. l.now) ls)) c.as_slice.ensures.value c.in_ok-atoms.ensures.holds)
    c.in_ok-node.ensures
