use Rattle.std.proofs.Common.{◌≡◌, ◌++◌, length}
use Rattle.rpl_plans.specs.Choices.{grouped_from}
use Rattle.rpl_plans.proofs.grouping.grouped_from.Given as goal

abbrev pub invariant-loop-rest : goal.invariant-loop-rest
invariant-loop-rest l = l.found ++ grouped_from l.current l.rest ≡ grouped_from l.fn.first l.others

abbrev pub decreases-loop-rest : goal.decreases-loop-rest
decreases-loop-rest l = length l.rest
