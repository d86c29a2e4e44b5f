use Rattle.std.proofs.Common.{length}
use Rattle.path_patterns.proofs.ItemWords.{AreFound}
use Rattle.path_patterns.proofs.word_item.word_items.Given as goal

abbrev pub invariant-loop-rest : goal.invariant-loop-rest
invariant-loop-rest l = AreFound l.found l.rest l.items

abbrev pub decreases-loop-rest : goal.decreases-loop-rest
decreases-loop-rest l = length l.rest
