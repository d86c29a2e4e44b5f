use Rattle.std.proofs.Common.{◌≡◌, ◌++◌, true, length}
use Rattle.std.specs.List.{list_all, AllByRecursion}
use Rattle.policy_core.specs.Ranges.{list_in_range}
use Rattle.rpl_plans.specs.Entries.{prefix_terms}
use Rattle.rpl_plans.specs.Fits.{FitsTerm}
use Rattle.rpl_plans.proofs.atoms.prefix_terms.Given as goal

abbrev pub invariant-loop-rest : goal.invariant-loop-rest
invariant-loop-rest l = record {
  same : l.found ++ prefix_terms l.asked l.rest ≡ prefix_terms l.asked l.lists;
  fits : AllByRecursion FitsTerm l.found;
  range : list_all list_in_range l.rest ≡ true;
}

abbrev pub decreases-loop-rest : goal.decreases-loop-rest
decreases-loop-rest l = length l.rest
