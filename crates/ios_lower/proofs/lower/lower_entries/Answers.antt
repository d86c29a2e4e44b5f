use Rattle.std.proofs.Common.{subst, List}
use Rattle.std.specs.Prelude.{map}
use Rattle.ios_reader.specs.Entries.{Entry}
use Rattle.ios_meaning.specs.Drafts.{entry_of}
use Rattle.ios_lower.specs.Lowered.{AreLowered}
use Rattle.ios_lower.proofs.Ends.{popped_map}
use Rattle.ios_lower.proofs.Lowered.{lowered_none, lowered_more}
use Rattle.ios_lower.proofs.lower.lower_entries.Goals as goal

pub loop-entry-init : goal.loop-entry-init
loop-entry-init c =
    lowered_none c.args.lists.now.items.now (map entry_of c.args.entries.items) c.args.core.now c.stop.new.self c.in_ok-node.node c.requires.empty c.in_ok-node.ensures.made

pub loop-entry-preserved : goal.loop-entry-preserved
loop-entry-preserved c =
    lowered_more c.args.lists.now.items.now (map entry_of c.args.entries.items) (map entry_of c.pop.new.self.items) (entry_of c.in-Some.entry) c.loop-entry.core c.lower_entry.new.core c.loop-entry.node c.in_ok-next.next
    (subst (λ (es : List Entry). AreLowered c.args.lists.now.items.now (map entry_of c.args.entries.items) es c.loop-entry.core c.loop-entry.node)
    (popped_map entry_of c.loop-entry.left.items c.pop.new.self.items c.pop.result c.in-Some.entry c.pop.ensures.items c.in-Some.is) c.loop-entry.invariant)
    c.in_ok-next.ensures
