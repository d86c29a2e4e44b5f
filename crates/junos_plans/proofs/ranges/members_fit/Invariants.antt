use Rattle.std.proofs.Common.{◌≡◌, true, length}
use Rattle.std.specs.List.{AllByRecursion, list_all}
use Rattle.policy_core.specs.Sayable.{is_plain}
use Rattle.junos_plans.specs.Fits.{FitsMember}
use Rattle.junos_plans.proofs.ranges.members_fit.Given as goal

abbrev pub invariant-loop-rest : goal.invariant-loop-rest
invariant-loop-rest l = record {
  fits : AllByRecursion FitsMember l.rest → AllByRecursion FitsMember l.members;
  plain : list_all is_plain l.rest ≡ true;
}

abbrev pub decreases-loop-rest : goal.decreases-loop-rest
decreases-loop-rest l = length l.rest
