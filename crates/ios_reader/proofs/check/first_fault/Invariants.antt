use Rattle.std.proofs.Common.{length}
use Rattle.ios_reader.specs.Walk.{IsWalking}
use Rattle.ios_reader.proofs.check.first_fault.Given as goal

abbrev pub invariant-loop-rest : goal.invariant-loop-rest
invariant-loop-rest g l = IsWalking g.T.Takes.takes l.policy l.items l.rest l.place l.marks

abbrev pub decreases-loop-rest : goal.decreases-loop-rest
decreases-loop-rest g l = length l.rest
