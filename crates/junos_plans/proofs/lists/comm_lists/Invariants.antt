use Rattle.std.proofs.Common.{◌≡◌, ◌++◌, true, length}
use Rattle.std.specs.List.{AllByRecursion}
use Rattle.policy_core.specs.Sayable.{is_plain_all_of, lists_are}
use Rattle.junos_plans.specs.Entries.{comm_lists}
use Rattle.junos_plans.specs.Fits.{FitsList}
use Rattle.junos_plans.proofs.lists.comm_lists.Given as goal

abbrev pub invariant-loop-rest : goal.invariant-loop-rest
invariant-loop-rest l = record {
  same : l.found ++ comm_lists l.rest ≡ comm_lists l.lists;
  fits : AllByRecursion FitsList l.found;
  plain : lists_are is_plain_all_of l.rest ≡ true;
}

abbrev pub decreases-loop-rest : goal.decreases-loop-rest
decreases-loop-rest l = length l.rest
