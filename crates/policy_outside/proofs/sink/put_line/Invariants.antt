-- what is put of the rest is put of the joined pieces
use Rattle.std.proofs.Common.{length, map}
use Rattle.policy_outside.specs.Sink.{joined}
use Rattle.policy_outside.proofs.PutLaws.{LeadsOn}
use Rattle.policy_outside.proofs.sink.put_line.Given as goal

abbrev pub invariant-loop-rest : goal.invariant-loop-rest
invariant-loop-rest g l =
    LeadsOn (g.E.Sink.seen l.initial.sink) (g.E.Sink.seen l.sink)
    (joined (map (λ piece. piece.now) l.rest)) (joined (map (λ piece. piece.now) l.pieces))

abbrev pub decreases-loop-rest : goal.decreases-loop-rest
decreases-loop-rest g l = length l.rest
