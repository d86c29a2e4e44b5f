use Rattle.std.proofs.Common.{◌≡◌, ◌++◌, length, map}
use Rattle.resolved_tests.specs.Answers.{entry_behind}
use Rattle.resolved_tests.proofs.paths.entries_behind.Given as goal

abbrev pub invariant-loop-rest : goal.invariant-loop-rest
invariant-loop-rest l = l.found ++ map (λ e. entry_behind l.numbers e) l.rest ≡ map (λ e. entry_behind l.numbers e) l.entries

abbrev pub decreases-loop-rest : goal.decreases-loop-rest
decreases-loop-rest l = length l.rest
