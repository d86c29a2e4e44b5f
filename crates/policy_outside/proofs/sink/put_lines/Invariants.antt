-- what is put of the rest is put of the whole text
use Rattle.std.proofs.Common.{length}
use Rattle.policy_outside.proofs.PutLaws.{LeadsOn}
use Rattle.policy_outside.proofs.sink.put_lines.Given as goal

abbrev pub invariant-loop-rest : goal.invariant-loop-rest
invariant-loop-rest g l = LeadsOn (g.O.Sink.seen l.initial.sink) (g.O.Sink.seen l.sink) l.rest l.text

abbrev pub decreases-loop-rest : goal.decreases-loop-rest
decreases-loop-rest g l = length l.rest
