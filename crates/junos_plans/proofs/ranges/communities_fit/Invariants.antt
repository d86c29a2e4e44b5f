use Rattle.std.proofs.Common.{length}
use Rattle.std.specs.List.{AllByRecursion}
use Rattle.junos_plans.specs.Fits.{FitsCommunity}
use Rattle.junos_plans.proofs.ranges.communities_fit.Given as goal

abbrev pub invariant-loop-rest : goal.invariant-loop-rest
invariant-loop-rest l = AllByRecursion FitsCommunity l.rest → AllByRecursion FitsCommunity l.communities

abbrev pub decreases-loop-rest : goal.decreases-loop-rest
decreases-loop-rest l = length l.rest
