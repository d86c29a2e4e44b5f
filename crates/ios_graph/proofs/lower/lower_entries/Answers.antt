use Rattle.std.specs.Prelude.{map}
use Rattle.ios_meaning.specs.Drafts.{entry_of}
use Rattle.ios_graph.proofs.Lowered.{lowered_none}
use Rattle.ios_graph.proofs.lower.lower_entries.Goals as goal

pub loop-entry-init : goal.loop-entry-init
loop-entry-init c =
    lowered_none c.args.lists.now.items.now (map entry_of c.args.entries.items) c.args.core.now c.stop.new.self c.stop-2.new.self c.in_ok-rejected.rejected c.in_ok-accepted.accepted c.new.result
    c.requires.empty c.new.ensures.items c.in_ok-rejected.ensures.made c.in_ok-accepted.ensures.made c.stop-2.ensures.keeps
