use Rattle.std.proofs.Common.{◌∙◌, ap, sym, subst, Bool, true, false, List}
use Rattle.std.specs.List.{AllByRecursion}
use Rattle.rpl_plans.specs.Choices.{first_or}
use Rattle.rpl_plans.specs.Fits.{FitsValue, FitsTest, FitsChoice}
use Rattle.rpl_plans.specs.Holds.{planned_holds, SaysPath}
use Rattle.rpl_plans.specs.declared.choice.Choice.{Choice}
use Rattle.rpl_plans.proofs.FitLaws.{all_with}
use Rattle.rpl_plans.proofs.PathLaws.{or_behind}
use Rattle.rpl_plans.proofs.paths.push_path.Goals as goal

pub returns-in_ok-push-in-Some-clause-holds : goal.returns-in_ok-push-in-Some-clause-holds
returns-in_ok-push-in-Some-clause-holds c r later is =
    let says = subst (SaysPath c.args.entry.now.pattern) c.in-Some.is c.in_ok-path_test.ensures.says in
    ap (λ (cs : List Choice). first_or (planned_holds r) cs later) c.in_ok-push-in-Some.ensures
    ∙ or_behind (planned_holds r) c.args.found.now (record { permit = c.args.entry.now.permit; test = c.in-Some.test }) later
    ∙ ap (λ (b : Bool). first_or (planned_holds r) c.args.found.now (elim b [ true ↦ c.args.entry.now.permit | false ↦ later ])) (says r is)

pub returns-in_ok-push-in-Some-clause-fits : goal.returns-in_ok-push-in-Some-clause-fits
returns-in_ok-push-in-Some-clause-fits c before =
    subst (λ (cs : List Choice). AllByRecursion FitsChoice cs) (sym c.in_ok-push-in-Some.ensures)
    (all_with FitsChoice c.args.found.now (record { permit = c.args.entry.now.permit; test = c.in-Some.test }) before (subst (FitsValue FitsTest) c.in-Some.is c.in_ok-path_test.ensures.fits))
