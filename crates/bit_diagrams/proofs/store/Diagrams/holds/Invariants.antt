use Rattle.std.proofs.Common.{◌≡◌}
use Rattle.bit_diagrams.specs.Store.{IsIdOf}
use Rattle.bit_diagrams.specs.Meaning.{holds}
use Rattle.bit_diagrams.proofs.store.Diagrams.holds.Given as goal

abbrev pub invariant-loop-node : goal.invariant-loop-node
invariant-loop-node l = IsIdOf l.self l.at × (l.values ≡ l.bits)
    × (holds l.self l.at l.bits ≡ holds l.self l.fn.id l.bits)

abbrev pub decreases-loop-node : goal.decreases-loop-node
decreases-loop-node l = l.at
