use Rattle.std.proofs.Common.{◌≡◌, length}
use Rattle.path_suffixes.specs.Behind.{pattern_behind_all}
use Rattle.path_suffixes.proofs.suffix.behind_all.Given as goal

abbrev pub invariant-loop-rest : goal.invariant-loop-rest
invariant-loop-rest l = pattern_behind_all l.rest l.left ≡ pattern_behind_all l.numbers l.pattern

abbrev pub decreases-loop-rest : goal.decreases-loop-rest
decreases-loop-rest l = length l.rest
