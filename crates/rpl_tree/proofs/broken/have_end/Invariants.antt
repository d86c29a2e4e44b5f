use Rattle.std.proofs.Common.{◌≡◌, length}
use Rattle.rpl_tree.specs.Broken.{have_end}
use Rattle.rpl_tree.proofs.broken.have_end.Given as goal

abbrev pub invariant-loop-rest : goal.invariant-loop-rest
invariant-loop-rest l = have_end l.kind l.rest ≡ have_end l.kind l.statements

abbrev pub decreases-loop-rest : goal.decreases-loop-rest
decreases-loop-rest l = length l.rest
