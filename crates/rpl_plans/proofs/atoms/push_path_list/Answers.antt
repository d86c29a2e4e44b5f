use Rattle.std.proofs.Common.{◌∙◌, ◌||◌, ap, sym, subst, Bool, List}
use Rattle.std.specs.List.{list_any, AllByRecursion}
use Rattle.core_nodes.specs.Atoms.{path_answers}
use Rattle.core_nodes.specs.declared.atom.PathEntry.{PathEntry}
use Rattle.rpl_plans.specs.Choices.{first_choice, term_holds}
use Rattle.rpl_plans.specs.Fits.{FitsChoice, FitsTerm}
use Rattle.rpl_plans.specs.Holds.{planned_holds}
use Rattle.rpl_plans.specs.declared.choice.Choice.{Choice}
use Rattle.rpl_plans.specs.declared.choice.PlannedTerm.{PlannedTerm}
use Rattle.rpl_plans.proofs.AtomLaws.{list_behind}
use Rattle.rpl_plans.proofs.FitLaws.{terms_behind}
use Rattle.rpl_plans.proofs.PathLaws.{or_nothing}
use Rattle.rpl_plans.proofs.atoms.push_path_list.Goals as goal

pub returns-clause-holds : goal.returns-clause-holds
returns-clause-holds c r is =
    ap (λ (ts : List PlannedTerm). list_any (term_holds (planned_holds r)) ts) c.in_ok-push_terms.ensures
    ∙ list_behind r c.args.found.now c.as_slice-2.result.now
    ∙ ap (λ (cs : List Choice). list_any (term_holds (planned_holds r)) c.args.found.now || first_choice (planned_holds r) cs) c.as_slice-2.ensures
    ∙ ap (λ (b : Bool). list_any (term_holds (planned_holds r)) c.args.found.now || b)
    (sym (or_nothing (planned_holds r) c.in_ok-choices.choices) ∙ c.in_ok-choices.ensures.holds r is ∙ ap (λ (es : List PathEntry). path_answers es r.path) c.as_slice.ensures)

pub returns-clause-fits : goal.returns-clause-fits
returns-clause-fits c before =
    subst (λ (ts : List PlannedTerm). AllByRecursion FitsTerm ts) (sym c.in_ok-push_terms.ensures)
    (terms_behind c.args.found.now c.as_slice-2.result.now before (subst (λ (cs : List Choice). AllByRecursion FitsChoice cs) (sym c.as_slice-2.ensures) c.in_ok-choices.ensures.fits))
