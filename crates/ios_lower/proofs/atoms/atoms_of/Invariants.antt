use Rattle.std.proofs.Common.{length}
use Rattle.std.specs.Prelude.{map}
use Rattle.ios_lower.specs.AtomSteps.{AtomsFound}
use Rattle.ios_lower.proofs.atoms.atoms_of.Given as goal

abbrev pub invariant-loop-rest : goal.invariant-loop-rest
invariant-loop-rest l = AtomsFound l.lists.items.now (map (λ m. m.now) l.lines) (map (λ m. m.now) l.rest) l.found.items

abbrev pub decreases-loop-rest : goal.decreases-loop-rest
decreases-loop-rest l = length l.rest
