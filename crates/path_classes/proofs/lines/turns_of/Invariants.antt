use Rattle.std.proofs.Common.{◌≡◌, ◌++◌, length, map}
use Rattle.path_patterns.specs.Items.{takes_of}
use Rattle.path_classes.specs.Lines.{turn_takes, AreSoundTurns}
use Rattle.path_classes.proofs.lines.turns_of.Given as goal

abbrev pub invariant-loop-rest : goal.invariant-loop-rest
invariant-loop-rest l = record {
  takes : map turn_takes l.found ++ map takes_of l.rest ≡ map takes_of l.items;
  sound : AreSoundTurns l.found;
}

abbrev pub decreases-loop-rest : goal.decreases-loop-rest
decreases-loop-rest l = length l.rest
