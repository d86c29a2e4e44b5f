use Rattle.std.proofs.Common.{length}
use Rattle.step_search.proofs.Closed.{ArePut}
use Rattle.step_search.proofs.found.add_all.Given as goal

abbrev pub invariant-loop-rest : goal.invariant-loop-rest
invariant-loop-rest g l = ArePut l.fn.found.keys l.found.keys l.more l.rest

abbrev pub decreases-loop-rest : goal.decreases-loop-rest
decreases-loop-rest g l = length l.rest
