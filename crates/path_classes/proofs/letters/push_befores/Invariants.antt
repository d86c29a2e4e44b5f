use Rattle.std.proofs.Common.{◌≡◌, ◌++◌, length}
use Rattle.path_classes.specs.Letters.{befores}
use Rattle.path_classes.proofs.letters.push_befores.Given as goal

abbrev pub invariant-loop-rest : goal.invariant-loop-rest
invariant-loop-rest l = l.out.items ++ befores l.rest ≡ l.initial.out.items ++ befores l.numbers

abbrev pub decreases-loop-rest : goal.decreases-loop-rest
decreases-loop-rest l = length l.rest
