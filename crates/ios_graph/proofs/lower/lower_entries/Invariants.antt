use Rattle.std.proofs.Common.{length}
use Rattle.std.specs.Prelude.{map}
use Rattle.ios_meaning.specs.Drafts.{entry_of}
use Rattle.ios_graph.specs.Lowered.{AreLowered}
use Rattle.ios_graph.proofs.lower.lower_entries.Given as goal

abbrev pub invariant-loop-entry : goal.invariant-loop-entry
invariant-loop-entry l = AreLowered l.lists.items.now (map entry_of l.fn.entries.items) (map entry_of l.left.items) l.core l.rows

abbrev pub decreases-loop-entry : goal.decreases-loop-entry
decreases-loop-entry l = length l.left.items
