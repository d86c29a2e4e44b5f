use Rattle.std.proofs.Common.{◌≡◌, ◌++◌, ◌∷◌}
use Rattle.std.specs.List.{repeat as repeated}
use Rattle.aspath_text.specs.IosText.{set_text}
use Rattle.aspath_text.proofs.ios_text.push_pieces.Given as goal

abbrev pub invariant-loop-left : goal.invariant-loop-left
invariant-loop-left l = l.out.items ++ repeated l.left (95 ∷ set_text l.words) ≡ l.initial.out.items ++ repeated l.count (95 ∷ set_text l.words)

abbrev pub decreases-loop-left : goal.decreases-loop-left
decreases-loop-left l = l.left
