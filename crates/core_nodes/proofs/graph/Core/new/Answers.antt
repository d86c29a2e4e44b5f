use Rattle.core_nodes.specs.Nodes.{AreNodes}
use Rattle.core_nodes.proofs.graph.Core.new.Goals as goal

pub invariant_of-result : goal.invariant_of-result
unfolding AreNodes
invariant_of-result c = rw c.new.ensures.empty tt
