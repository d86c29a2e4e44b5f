use Rattle.bit_diagrams.specs.Store.{AreNodes}
use Rattle.bit_diagrams.proofs.store.Diagrams.new.Goals as goal

pub invariant_of-result : goal.invariant_of-result
unfolding AreNodes
invariant_of-result c = rw c.in_ok-nodes.ensures.empty tt
