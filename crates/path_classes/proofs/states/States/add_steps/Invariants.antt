use Rattle.std.proofs.Common.{length, List}
use Rattle.path_classes.specs.States.{IsState}
use Rattle.path_classes.specs.declared.threads.Thread.{Thread}
use Rattle.path_classes.proofs.StateLaws.{IsOnWay}
use Rattle.path_classes.proofs.states.States.add_steps.Given as goal

abbrev pub invariant-loop-rest : goal.invariant-loop-rest
invariant-loop-rest l = (ts : List Thread) → IsState l.lines l.initial.self l.from ts → IsOnWay l.lines l.numbers l.initial.self l.self ts l.row l.rest

abbrev pub decreases-loop-rest : goal.decreases-loop-rest
decreases-loop-rest l = length l.rest
