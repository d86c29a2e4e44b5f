use Rattle.std.proofs.Common.{◌≡◌, ◌++◌, length, map}
use Rattle.settled_graph.specs.Tasks.{planless}
use Rattle.settled_graph.proofs.tasks.push_all.Given as goal

abbrev pub invariant-loop-key : goal.invariant-loop-key
invariant-loop-key l = map planless l.left.items ++ l.tasks ≡ map planless l.fn.keys.items ++ l.initial.tasks

abbrev pub decreases-loop-key : goal.decreases-loop-key
decreases-loop-key l = length l.left.items
