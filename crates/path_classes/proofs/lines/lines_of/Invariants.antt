use Rattle.std.proofs.Common.{◌≡◌, ◌++◌, ◌+◌, length, map}
use Rattle.path_classes.specs.Lines.{line_view, views_from, AreSound}
use Rattle.path_classes.proofs.lines.lines_of.Given as goal

abbrev pub invariant-loop-rest : goal.invariant-loop-rest
invariant-loop-rest l = record {
  views : map line_view l.found ++ views_from l.place l.rest ≡ views_from 0 l.patterns;
  sound : AreSound l.found;
  count : l.place + length l.rest ≡ length l.patterns;
}

abbrev pub decreases-loop-rest : goal.decreases-loop-rest
decreases-loop-rest l = length l.rest
