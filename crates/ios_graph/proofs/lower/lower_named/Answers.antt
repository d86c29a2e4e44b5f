use Rattle.std.proofs.Common.{subst, List, []}
use Rattle.std.specs.Prelude.{map}
use Rattle.ios_tree.specs.declared.item.IosItem.{IosItem}
use Rattle.ios_meaning.specs.Drafts.{entry_of}
use Rattle.ios_graph.specs.Lowered.{AreLowered}
use Rattle.ios_graph.proofs.Lowered.{policy_rises, policy_node}
use Rattle.ios_graph.proofs.lower.lower_named.Goals as goal

pub lower_entries-requires-clause-rising : goal.lower_entries-requires-clause-rising
lower_entries-requires-clause-rising c = policy_rises c.args.items.now c.args.name.now (map entry_of c.in_ok-entries.entries.items) c.requires.profile c.in_ok-entries.ensures

pub returns : goal.returns
returns c =
    policy_node c.args.items.now c.args.name.now (map entry_of c.in_ok-entries.entries.items) c.lower_entries.new.core c.in_ok-rows.rows c.requires.profile c.in_ok-entries.ensures
    (subst (λ (all : List IosItem). AreLowered all (map entry_of c.in_ok-entries.entries.items) [] c.lower_entries.new.core c.in_ok-rows.rows) c.in_ok-lists.ensures.items c.in_ok-rows.ensures)
    c.count.ensures.facts
