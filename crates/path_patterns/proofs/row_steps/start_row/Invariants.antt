use Rattle.std.proofs.Common.{◌≡◌, true, false, ◌∷◌, ◌++◌, length}
use Rattle.std.specs.Prelude.{map}
use Rattle.path_patterns.proofs.row_steps.start_row.Given as goal

abbrev pub invariant-loop-rest : goal.invariant-loop-rest
invariant-loop-rest l = l.row ++ map (λ _. false) l.rest ≡ true ∷ map (λ _. false) l.path

abbrev pub decreases-loop-rest : goal.decreases-loop-rest
decreases-loop-rest l = length l.rest
