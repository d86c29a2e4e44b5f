use Rattle.std.proofs.Common.{◌≡◌, ◌++◌, ◌+◌, ◌≤◌, length}
use Rattle.text_words.specs.LineCut.{line_from, lines_from}
use Rattle.text_words.proofs.line_cut.line_statements.Given as goal

abbrev pub invariant-loop-rest : goal.invariant-loop-rest
invariant-loop-rest l = record {
  cut : l.lines ++ lines_from l.line l.place l.rest ≡ lines_from (line_from 0) 0 l.text;
  place : l.place + length l.rest ≡ length l.text;
  within : l.line.word_start + length l.line.word ≤ l.place;
}

abbrev pub decreases-loop-rest : goal.decreases-loop-rest
decreases-loop-rest l = length l.rest
