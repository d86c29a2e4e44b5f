use Rattle.std.proofs.Common.{arith, sym, subst, List}
use Rattle.std.specs.List.{AllByRecursion}
use Rattle.std.proofs.lemmas.Grind.{common_steps}
use Rattle.rpl_plans.specs.Entries.{prefix_terms}
use Rattle.rpl_plans.specs.Fits.{FitsChoice, FitsTerm}
use Rattle.rpl_plans.specs.declared.choice.Choice.{Choice}
use Rattle.rpl_plans.specs.declared.choice.PlannedTerm.{PlannedTerm}
use Rattle.rpl_plans.proofs.FitLaws.{terms_behind}
use Rattle.rpl_plans.proofs.atoms.prefix_terms.Goals as goal

pub loop-rest-preserved : goal.loop-rest-preserved
unfolding prefix_terms
loop-rest-preserved c = record {
  same = grind (arith, common_steps);
  fits =
      subst (λ (ts : List PlannedTerm). AllByRecursion FitsTerm ts) (sym c.in_ok-push_terms.ensures)
      (terms_behind c.loop-rest.found c.as_slice-in-len1-up.result.now c.loop-rest.invariant.fits (subst (λ (cs : List Choice). AllByRecursion FitsChoice cs) (sym c.as_slice-in-len1-up.ensures) c.in_ok-choices.ensures.fits));
  range = grind (arith, common_steps);
}
