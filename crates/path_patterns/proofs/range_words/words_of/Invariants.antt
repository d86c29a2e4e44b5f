use Rattle.std.proofs.Common.{length}
use Rattle.path_patterns.specs.RangeWords.{AreWordsBefore}
use Rattle.path_patterns.proofs.range_words.words_of.Given as goal

abbrev pub invariant-loop-rest : goal.invariant-loop-rest
invariant-loop-rest l = AreWordsBefore l.words.items l.rest l.ranges

abbrev pub decreases-loop-rest : goal.decreases-loop-rest
decreases-loop-rest l = length l.rest
