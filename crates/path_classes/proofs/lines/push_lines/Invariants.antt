use Rattle.std.proofs.Common.{◌≡◌, ◌++◌, length, map}
use Rattle.path_classes.specs.Lines.{line_view, branch_view, AreSound}
use Rattle.path_classes.proofs.lines.push_lines.Given as goal

abbrev pub invariant-loop-rest : goal.invariant-loop-rest
invariant-loop-rest l = record {
  views : map line_view l.out ++ map (branch_view l.pattern) l.rest ≡ map line_view l.initial.out ++ map (branch_view l.pattern) l.branches;
  sound : AreSound l.initial.out → AreSound l.out;
}

abbrev pub decreases-loop-rest : goal.decreases-loop-rest
decreases-loop-rest l = length l.rest
