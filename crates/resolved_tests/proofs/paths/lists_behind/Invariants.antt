use Rattle.std.proofs.Common.{◌≡◌, ◌++◌, length}
use Rattle.resolved_tests.specs.Answers.{lists_behind}
use Rattle.resolved_tests.proofs.paths.lists_behind.Given as goal

abbrev pub invariant-loop-rest : goal.invariant-loop-rest
invariant-loop-rest l = l.found ++ lists_behind l.numbers l.rest ≡ lists_behind l.numbers l.lists

abbrev pub decreases-loop-rest : goal.decreases-loop-rest
decreases-loop-rest l = length l.rest
