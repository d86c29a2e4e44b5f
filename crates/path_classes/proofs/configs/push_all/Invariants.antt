use Rattle.std.proofs.Common.{◌≡◌, ◌++◌, length}
use Rattle.std.specs.List.{flat_map}
use Rattle.path_classes.specs.Threads.{next}
use Rattle.path_classes.proofs.configs.push_all.Given as goal

abbrev pub invariant-loop-rest : goal.invariant-loop-rest
invariant-loop-rest l = l.out ++ flat_map (λ t. next l.lines l.number t) l.rest ≡ l.initial.out ++ flat_map (λ t. next l.lines l.number t) l.threads

abbrev pub decreases-loop-rest : goal.decreases-loop-rest
decreases-loop-rest l = length l.rest
