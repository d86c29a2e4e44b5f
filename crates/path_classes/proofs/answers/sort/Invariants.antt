use Rattle.std.proofs.Common.{◌≡◌, ◌-◌, ◌^◌, length}
use Rattle.path_classes.specs.Sorting.{IsSorted}
use Rattle.path_classes.proofs.answers.sort.Given as goal

abbrev pub invariant-loop-place : goal.invariant-loop-place
invariant-loop-place l = length l.states.configs.keys ≡ length l.states.paths → IsSorted l.count l.states l.sorting l.place

abbrev pub decreases-loop-place : goal.decreases-loop-place
decreases-loop-place l = 2 ^ 64 - l.place
