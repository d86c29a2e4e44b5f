use Rattle.std.proofs.Common.{◌≡◌, ◌++◌, [], length}
use Rattle.junos_tree.specs.Tree.{items_from}
use Rattle.junos_tree.proofs.read.items_of.Given as goal

abbrev pub invariant-loop-rest : goal.invariant-loop-rest
invariant-loop-rest l = l.items ++ items_from l.places l.rest ≡ items_from [] l.statements

abbrev pub decreases-loop-rest : goal.decreases-loop-rest
decreases-loop-rest l = length l.rest
