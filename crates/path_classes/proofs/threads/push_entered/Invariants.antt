use Rattle.std.proofs.Common.{◌≡◌, ◌++◌, length}
use Rattle.path_classes.specs.Threads.{entered}
use Rattle.path_classes.proofs.threads.push_entered.Given as goal

abbrev pub invariant-loop-rest : goal.invariant-loop-rest
invariant-loop-rest l = l.out ++ entered l.pattern l.line l.rest ≡ l.initial.out ++ entered l.pattern l.line l.turns

abbrev pub decreases-loop-rest : goal.decreases-loop-rest
decreases-loop-rest l = length l.rest
