use Rattle.std.proofs.Common.{◌≡◌, ◌<◌, length}
use Rattle.core_nodes.specs.Outcome.{outcome_at}
use Rattle.core_nodes.proofs.graph.Core.run.Given as goal

abbrev pub invariant-loop-atom : goal.invariant-loop-atom
invariant-loop-atom l = (l.place < length l.self) × (outcome_at l.self l.place l.changed ≡ outcome_at l.self l.fn.node l.route)

abbrev pub decreases-loop-atom : goal.decreases-loop-atom
decreases-loop-atom l = l.place
