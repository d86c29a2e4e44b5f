use Rattle.std.proofs.Common.{◌≡◌, ◌++◌, length}
use Rattle.path_classes.specs.Letters.{signature}
use Rattle.path_classes.proofs.letters.signature.Given as goal

abbrev pub invariant-loop-rest : goal.invariant-loop-rest
invariant-loop-rest l = l.found ++ signature l.rest l.number ≡ signature l.lines l.number

abbrev pub decreases-loop-rest : goal.decreases-loop-rest
decreases-loop-rest l = length l.rest
