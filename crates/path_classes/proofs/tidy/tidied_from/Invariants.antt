use Rattle.std.proofs.Common.{◌≡◌, ◌++◌, ◌∷◌, length}
use Rattle.path_classes.specs.Tidy.{tidied_from}
use Rattle.path_classes.proofs.tidy.tidied_from.Given as goal

abbrev pub invariant-loop-rest : goal.invariant-loop-rest
invariant-loop-rest l = l.kept ++ tidied_from l.last l.rest ≡ l.fn.first ∷ tidied_from l.fn.first l.others

abbrev pub decreases-loop-rest : goal.decreases-loop-rest
decreases-loop-rest l = length l.rest
