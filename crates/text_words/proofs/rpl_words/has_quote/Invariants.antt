use Rattle.std.proofs.Common.{◌≡◌, length}
use Rattle.text_words.specs.RplWords.{has_quote}
use Rattle.text_words.proofs.rpl_words.has_quote.Given as goal

abbrev pub invariant-loop-rest : goal.invariant-loop-rest
invariant-loop-rest l = has_quote l.rest ≡ has_quote l.line

abbrev pub decreases-loop-rest : goal.decreases-loop-rest
decreases-loop-rest l = length l.rest
