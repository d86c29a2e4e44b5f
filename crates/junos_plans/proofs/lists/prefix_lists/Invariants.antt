use Rattle.std.proofs.Common.{◌≡◌, ◌++◌, true, length}
use Rattle.std.specs.List.{list_all, AllByRecursion}
use Rattle.policy_core.specs.Ranges.{list_in_range}
use Rattle.junos_plans.specs.Entries.{prefix_lists}
use Rattle.junos_plans.specs.Fits.{FitsList}
use Rattle.junos_plans.proofs.lists.prefix_lists.Given as goal

abbrev pub invariant-loop-rest : goal.invariant-loop-rest
invariant-loop-rest l = record {
  same : l.found ++ prefix_lists l.asked l.rest ≡ prefix_lists l.asked l.lists;
  fits : AllByRecursion FitsList l.found;
  range : list_all list_in_range l.rest ≡ true;
}

abbrev pub decreases-loop-rest : goal.decreases-loop-rest
decreases-loop-rest l = length l.rest
