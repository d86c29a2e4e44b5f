use Rattle.std.proofs.Common.{◌≡◌, ◌++◌, true, length}
use Rattle.std.specs.List.{list_all, AllByRecursion}
use Rattle.policy_core.specs.Ranges.{prefix_in_range}
use Rattle.rpl_plans.specs.Entries.{prefix_choices}
use Rattle.rpl_plans.specs.Fits.{FitsChoice}
use Rattle.rpl_plans.proofs.entries.prefix_choices.Given as goal

abbrev pub invariant-loop-rest : goal.invariant-loop-rest
invariant-loop-rest l = record {
  same : l.found ++ prefix_choices l.asked l.rest ≡ prefix_choices l.asked l.entries;
  fits : AllByRecursion FitsChoice l.found;
  range : list_all (λ e. prefix_in_range e.range.prefix) l.rest ≡ true;
}

abbrev pub decreases-loop-rest : goal.decreases-loop-rest
decreases-loop-rest l = length l.rest
