use Rattle.std.proofs.Common.{◌≡◌, ◌++◌, true, length}
use Rattle.std.specs.List.{list_all, AllByRecursion}
use Rattle.policy_core.specs.Sayable.{is_plain_all_of}
use Rattle.junos_plans.specs.Entries.{comm_entries}
use Rattle.junos_plans.specs.Fits.{FitsEntry}
use Rattle.junos_plans.proofs.entries.comm_entries.Given as goal

abbrev pub invariant-loop-rest : goal.invariant-loop-rest
invariant-loop-rest l = record {
  same : l.found ++ comm_entries l.rest ≡ comm_entries l.entries;
  fits : AllByRecursion FitsEntry l.found;
  plain : list_all (λ e. is_plain_all_of e.test) l.rest ≡ true;
}

abbrev pub decreases-loop-rest : goal.decreases-loop-rest
decreases-loop-rest l = length l.rest
