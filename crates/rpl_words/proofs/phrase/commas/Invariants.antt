use Rattle.std.proofs.Common.{◌≡◌, length}
use Rattle.rpl_words.specs.Tokens.{tokens, commas}
use Rattle.rpl_words.proofs.Phrases.{found_before}
use Rattle.rpl_words.proofs.phrase.commas.Given as goal

abbrev pub invariant-loop-front : goal.invariant-loop-front
invariant-loop-front g l = found_before l.found (commas g.R.ReadsWords.find (tokens l.rest)) ≡ commas g.R.ReadsWords.find (tokens l.words)

abbrev pub decreases-loop-front : goal.decreases-loop-front
decreases-loop-front g l = length l.rest
