use Rattle.std.proofs.Common.{◌≡◌, ◌++◌, ◌*◌}
use Rattle.text_words.specs.Pieces.{spaces}
use Rattle.rpl_text.proofs.bytes.push_margin.Given as goal

abbrev pub invariant-loop-left : goal.invariant-loop-left
invariant-loop-left l = l.out.items ++ spaces (2 * l.left) ≡ l.initial.out.items ++ spaces (2 * l.levels)

abbrev pub decreases-loop-left : goal.decreases-loop-left
decreases-loop-left l = l.left
