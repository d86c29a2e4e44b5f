use Rattle.std.proofs.Common.{subst, List, []}
use Rattle.std.specs.Prelude.{map}
use Rattle.ios_tree.specs.declared.item.IosItem.{IosItem}
use Rattle.ios_meaning.specs.Drafts.{entry_of}
use Rattle.ios_lower.specs.Lowered.{AreLowered}
use Rattle.ios_lower.proofs.Lowered.{policy_node}
use Rattle.ios_lower.proofs.lower.lower_named.Goals as goal

pub returns : goal.returns
returns c =
    policy_node c.args.items.now c.args.name.now (map entry_of c.in_ok-entries.entries.items) c.lower_entries.new.core c.in_ok-node.node c.requires.ends c.in_ok-entries.ensures
    (subst (λ (all : List IosItem). AreLowered all (map entry_of c.in_ok-entries.entries.items) [] c.lower_entries.new.core c.in_ok-node.node) c.in_ok-lists.ensures.items c.in_ok-node.ensures)
    c.count.ensures.facts
