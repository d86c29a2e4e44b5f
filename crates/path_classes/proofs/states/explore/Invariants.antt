use Rattle.std.proofs.Common.{◌-◌, ◌^◌}
use Rattle.path_classes.specs.Lines.{AreSound}
use Rattle.path_classes.specs.States.{IsExplored}
use Rattle.path_classes.proofs.states.explore.Given as goal

abbrev pub invariant-loop-place : goal.invariant-loop-place
invariant-loop-place l = AreSound l.lines → IsExplored l.lines l.numbers l.states l.place

abbrev pub decreases-loop-place : goal.decreases-loop-place
decreases-loop-place l = 2 ^ 64 - l.place
