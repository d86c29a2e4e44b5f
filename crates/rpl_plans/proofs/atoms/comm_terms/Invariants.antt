use Rattle.std.proofs.Common.{◌≡◌, ◌++◌, length}
use Rattle.std.specs.List.{AllByRecursion}
use Rattle.rpl_plans.specs.Entries.{comm_terms}
use Rattle.rpl_plans.specs.Fits.{FitsTerm}
use Rattle.rpl_plans.proofs.atoms.comm_terms.Given as goal

abbrev pub invariant-loop-rest : goal.invariant-loop-rest
invariant-loop-rest l = record {
  same : l.found ++ comm_terms l.rest ≡ comm_terms l.lists;
  fits : AllByRecursion FitsTerm l.found;
}

abbrev pub decreases-loop-rest : goal.decreases-loop-rest
decreases-loop-rest l = length l.rest
