use Rattle.std.proofs.Common.{◌≡◌, ◌++◌, length, map}
use Rattle.path_classes.specs.Letters.{turn_tests}
use Rattle.path_classes.proofs.letters.push_tests.Given as goal

abbrev pub invariant-loop-rest : goal.invariant-loop-rest
invariant-loop-rest l = l.out ++ map (turn_tests l.number) l.rest ≡ l.initial.out ++ map (turn_tests l.number) l.turns

abbrev pub decreases-loop-rest : goal.decreases-loop-rest
decreases-loop-rest l = length l.rest
