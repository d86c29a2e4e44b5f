use Rattle.std.proofs.Common.{length}
use Rattle.rpl_words.proofs.phrase.+after.Given as goal

abbrev pub decreases-after : goal.decreases-after
decreases-after l = length l.keys.now
