use Rattle.std.proofs.Common.{length}
use Rattle.ios_lower.specs.Chains.{Tests}
use Rattle.ios_lower.proofs.chains.test_all.Given as goal

abbrev pub invariant-loop-atom : goal.invariant-loop-atom
invariant-loop-atom l = Tests l.initial.core l.core l.fn.atoms.items l.left.items l.fn.yes l.no l.node

abbrev pub decreases-loop-atom : goal.decreases-loop-atom
decreases-loop-atom l = length l.left.items
