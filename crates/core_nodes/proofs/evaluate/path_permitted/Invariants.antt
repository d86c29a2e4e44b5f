use Rattle.std.proofs.Common.{◌≡◌, length}
use Rattle.core_nodes.specs.Atoms.{path_answers}
use Rattle.core_nodes.proofs.evaluate.path_permitted.Given as goal

abbrev pub invariant-loop-rest : goal.invariant-loop-rest
invariant-loop-rest l = path_answers l.rest l.path ≡ path_answers l.entries l.path

abbrev pub decreases-loop-rest : goal.decreases-loop-rest
decreases-loop-rest l = length l.rest
