use Rattle.std.proofs.Common.{length}
use Rattle.settled_graph.specs.Ends.{Acts}
use Rattle.settled_graph.proofs.ends.act_all.Given as goal

abbrev pub invariant-loop-change : goal.invariant-loop-change
invariant-loop-change l = Acts l.initial.core l.core l.fn.changes.items l.left.items l.fn.behind l.node

abbrev pub decreases-loop-change : goal.decreases-loop-change
decreases-loop-change l = length l.left.items
