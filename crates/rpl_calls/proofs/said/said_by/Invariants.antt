use Rattle.std.proofs.Common.{length}
use Rattle.rpl_calls.specs.Said.{IsSaying}
use Rattle.rpl_calls.proofs.said.said_by.Given as goal

abbrev pub invariant-loop-rest : goal.invariant-loop-rest
invariant-loop-rest l = IsSaying l.items l.said l.policy l.rest

abbrev pub decreases-loop-rest : goal.decreases-loop-rest
decreases-loop-rest l = length l.rest
