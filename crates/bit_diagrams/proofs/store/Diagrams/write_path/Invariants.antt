use Rattle.std.proofs.Common.{◌≡◌, length}
use Rattle.bit_diagrams.proofs.FindLemmas.{IsOnWay}
use Rattle.bit_diagrams.proofs.store.Diagrams.write_path.Given as goal

abbrev pub invariant-loop-node : goal.invariant-loop-node
invariant-loop-node l = IsOnWay l.self l.fn.id l.at l.values × (length l.values ≡ l.self.places)

abbrev pub decreases-loop-node : goal.decreases-loop-node
decreases-loop-node l = l.at
