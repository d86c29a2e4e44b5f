use Rattle.std.proofs.Common.{◌≡◌, ◌++◌, None, length}
use Rattle.rpl_tree.specs.Tree.{items_of}
use Rattle.rpl_tree.proofs.items.items_of.Given as goal

abbrev pub invariant-loop-rest : goal.invariant-loop-rest
invariant-loop-rest l = l.items ++ items_of l.block l.rest ≡ items_of None l.statements

abbrev pub decreases-loop-rest : goal.decreases-loop-rest
decreases-loop-rest l = length l.rest
