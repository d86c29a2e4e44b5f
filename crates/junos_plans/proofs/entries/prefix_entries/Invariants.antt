use Rattle.std.proofs.Common.{◌≡◌, ◌++◌, true, length}
use Rattle.std.specs.List.{list_all, AllByRecursion}
use Rattle.policy_core.specs.Ranges.{prefix_in_range}
use Rattle.junos_plans.specs.Entries.{prefix_entries}
use Rattle.junos_plans.specs.Fits.{FitsEntry}
use Rattle.junos_plans.proofs.entries.prefix_entries.Given as goal

abbrev pub invariant-loop-rest : goal.invariant-loop-rest
invariant-loop-rest l = record {
  same : l.found ++ prefix_entries l.asked l.rest ≡ prefix_entries l.asked l.entries;
  fits : AllByRecursion FitsEntry l.found;
  range : list_all (λ e. prefix_in_range e.range.prefix) l.rest ≡ true;
}

abbrev pub decreases-loop-rest : goal.decreases-loop-rest
decreases-loop-rest l = length l.rest
