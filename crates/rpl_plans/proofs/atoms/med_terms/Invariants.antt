use Rattle.std.proofs.Common.{◌≡◌, ◌++◌, length}
use Rattle.std.specs.List.{AllByRecursion}
use Rattle.rpl_plans.specs.Entries.{med_terms}
use Rattle.rpl_plans.specs.Fits.{FitsTerm}
use Rattle.rpl_plans.proofs.atoms.med_terms.Given as goal

abbrev pub invariant-loop-rest : goal.invariant-loop-rest
invariant-loop-rest l = record {
  same : l.found ++ med_terms l.rest ≡ med_terms l.numbers;
  fits : AllByRecursion FitsTerm l.found;
}

abbrev pub decreases-loop-rest : goal.decreases-loop-rest
decreases-loop-rest l = length l.rest
