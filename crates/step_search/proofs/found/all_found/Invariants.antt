use Rattle.std.proofs.Common.{◌-◌, ◌^◌}
use Rattle.step_search.specs.Found.{IsSearched}
use Rattle.step_search.proofs.found.all_found.Given as goal

abbrev pub invariant-loop-place : goal.invariant-loop-place
invariant-loop-place g l = IsSearched (g.S.Steps.next l.steps) l.start l.found.keys l.place

abbrev pub decreases-loop-place : goal.decreases-loop-place
decreases-loop-place g l = 2 ^ 64 - l.place
