use Rattle.std.proofs.Common.{◌≡◌, ℕ, List, length}
use Rattle.rpl_meaning.specs.Blocks.{word_in, word_or}
use Rattle.rpl_meaning.specs.Sets.{handed}
use Rattle.rpl_meaning.proofs.words.handed.Given as goal

abbrev pub decreases-loop-names : goal.decreases-loop-names
decreases-loop-names l = length l.names

abbrev pub invariant-loop-names : goal.invariant-loop-names
invariant-loop-names l = (x : List ℕ) → word_or l.found.entries (handed (word_in l.words.entries) l.names l.rest x) x ≡ handed (word_in l.words.entries) l.parameters l.arguments x
