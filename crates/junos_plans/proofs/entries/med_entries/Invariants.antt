use Rattle.std.proofs.Common.{◌≡◌, ◌++◌, length}
use Rattle.std.specs.List.{AllByRecursion}
use Rattle.junos_plans.specs.Entries.{med_entries}
use Rattle.junos_plans.specs.Fits.{FitsEntry}
use Rattle.junos_plans.proofs.entries.med_entries.Given as goal

abbrev pub invariant-loop-rest : goal.invariant-loop-rest
invariant-loop-rest l = record {
  same : l.found ++ med_entries l.rest ≡ med_entries l.numbers;
  fits : AllByRecursion FitsEntry l.found;
}

abbrev pub decreases-loop-rest : goal.decreases-loop-rest
decreases-loop-rest l = length l.rest
