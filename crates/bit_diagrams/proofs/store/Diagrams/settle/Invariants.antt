use Rattle.bit_diagrams.specs.Choice.{answer_in}
use Rattle.bit_diagrams.proofs.WorkLemmas.{IsAtWork, work_left}
use Rattle.bit_diagrams.proofs.store.Diagrams.settle.Given as goal

abbrev pub invariant-loop-half : goal.invariant-loop-half
invariant-loop-half l = IsAtWork l.fn.self l.fn.start l.self (answer_in l.memo) l.waiting l.current

abbrev pub decreases-loop-half : goal.decreases-loop-half
decreases-loop-half l = work_left l.fn.self (answer_in l.memo) l.current
