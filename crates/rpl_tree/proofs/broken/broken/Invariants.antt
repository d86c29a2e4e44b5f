use Rattle.std.proofs.Common.{◌≡◌, length}
use Rattle.rpl_tree.specs.Broken.{broken, broken_from}
use Rattle.rpl_tree.proofs.broken.broken.Given as goal

abbrev pub invariant-loop-rest : goal.invariant-loop-rest
invariant-loop-rest l = broken_from l.standing l.rest ≡ broken l.statements

abbrev pub decreases-loop-rest : goal.decreases-loop-rest
decreases-loop-rest l = length l.rest
