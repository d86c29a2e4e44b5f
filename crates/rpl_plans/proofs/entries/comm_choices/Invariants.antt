use Rattle.std.proofs.Common.{◌≡◌, ◌++◌, length}
use Rattle.std.specs.List.{AllByRecursion}
use Rattle.rpl_plans.specs.Entries.{comm_choices}
use Rattle.rpl_plans.specs.Fits.{FitsChoice}
use Rattle.rpl_plans.proofs.entries.comm_choices.Given as goal

abbrev pub invariant-loop-rest : goal.invariant-loop-rest
invariant-loop-rest l = record {
  same : l.found ++ comm_choices l.rest ≡ comm_choices l.entries;
  fits : AllByRecursion FitsChoice l.found;
}

abbrev pub decreases-loop-rest : goal.decreases-loop-rest
decreases-loop-rest l = length l.rest
