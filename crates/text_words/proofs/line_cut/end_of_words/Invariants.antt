use Rattle.std.proofs.Common.{◌≡◌, length}
use Rattle.text_words.specs.LineCut.{end_of}
use Rattle.text_words.proofs.line_cut.end_of_words.Given as goal

abbrev pub invariant-loop-rest : goal.invariant-loop-rest
invariant-loop-rest l = end_of l.last l.rest ≡ end_of l.end l.words

abbrev pub decreases-loop-rest : goal.decreases-loop-rest
decreases-loop-rest l = length l.rest
