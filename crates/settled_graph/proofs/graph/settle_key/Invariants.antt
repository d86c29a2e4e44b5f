use Rattle.settled_graph.specs.Keys.{IsKnown, IsSound}
use Rattle.settled_graph.specs.Tasks.{MayAllBeDone, work}
use Rattle.settled_graph.proofs.graph.settle_key.Given as goal

abbrev pub invariant-loop-task : goal.invariant-loop-task
invariant-loop-task l = IsSound l.core l.settled l.memo × MayAllBeDone l.core l.root (IsKnown l.memo) l.tasks

abbrev pub decreases-loop-task : goal.decreases-loop-task
decreases-loop-task l = work l.tasks
