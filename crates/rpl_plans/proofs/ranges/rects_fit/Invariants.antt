use Rattle.std.proofs.Common.{length}
use Rattle.std.specs.List.{AllByRecursion}
use Rattle.rpl_plans.specs.Fits.{FitsRect}
use Rattle.rpl_plans.proofs.ranges.rects_fit.Given as goal

abbrev pub invariant-loop-rest : goal.invariant-loop-rest
invariant-loop-rest l = AllByRecursion FitsRect l.rest → AllByRecursion FitsRect l.rects

abbrev pub decreases-loop-rest : goal.decreases-loop-rest
decreases-loop-rest l = length l.rest
