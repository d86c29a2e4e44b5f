use Rattle.std.proofs.Common.{◌≡◌, length}
use Rattle.path_classes.specs.Walk.{state_in}
use Rattle.path_classes.proofs.classes.Classes.state.Given as goal

abbrev pub invariant-loop-rest : goal.invariant-loop-rest
invariant-loop-rest l = state_in l.self l.state l.rest ≡ state_in l.self 0 l.path

abbrev pub decreases-loop-rest : goal.decreases-loop-rest
decreases-loop-rest l = length l.rest
