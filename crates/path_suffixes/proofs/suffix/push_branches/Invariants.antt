use Rattle.std.proofs.Common.{◌≡◌, ◌++◌, length}
use Rattle.path_suffixes.specs.Behind.{branches_behind}
use Rattle.path_suffixes.proofs.suffix.push_branches.Given as goal

abbrev pub invariant-loop-rest : goal.invariant-loop-rest
invariant-loop-rest l = l.found ++ branches_behind l.number l.rest ≡ l.initial.found ++ branches_behind l.number l.pattern.branches

abbrev pub decreases-loop-rest : goal.decreases-loop-rest
decreases-loop-rest l = length l.rest
