use Rattle.std.proofs.Common.{◌≡◌, ◌*◌}
use Rattle.bit_diagrams.specs.Store.{IsIdOf}
use Rattle.diagram_growth.proofs.comparisons.conjunction.Given as goal

abbrev pub invariant-loop-pair : goal.invariant-loop-pair
invariant-loop-pair l = IsIdOf l.store l.all × (l.store.places ≡ 2 * l.count)
