use Rattle.std.proofs.Common.{◌≡◌, length}
use Rattle.std.specs.List.{list_any}
use Rattle.core_nodes.specs.Atoms.{path_answers}
use Rattle.core_nodes.proofs.evaluate.some_permits.Given as goal

abbrev pub invariant-loop-rest : goal.invariant-loop-rest
invariant-loop-rest l = list_any (λ p. path_answers p.entries l.path) l.rest ≡ list_any (λ p. path_answers p.entries l.path) l.lists

abbrev pub decreases-loop-rest : goal.decreases-loop-rest
decreases-loop-rest l = length l.rest
