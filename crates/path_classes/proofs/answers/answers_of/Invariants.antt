use Rattle.std.proofs.Common.{◌≡◌, length}
use Rattle.path_classes.specs.Answers.{marked, answers_of}
use Rattle.path_classes.proofs.answers.answers_of.Given as goal

abbrev pub invariant-loop-rest : goal.invariant-loop-rest
invariant-loop-rest l = marked l.answers.items l.rest ≡ answers_of l.count l.threads

abbrev pub decreases-loop-rest : goal.decreases-loop-rest
decreases-loop-rest l = length l.rest
