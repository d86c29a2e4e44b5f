use Rattle.std.proofs.Common.{◌∙◌, ap, sym, subst, ℕ, List}
use Rattle.std.specs.List.{AllByRecursion}
use Rattle.rpl_plans.specs.Choices.{terms_hold, or_never}
use Rattle.rpl_plans.specs.Fits.{FitsText, FitsTerms}
use Rattle.rpl_plans.specs.Holds.{planned_holds}
use Rattle.rpl_plans.specs.declared.choice.PlannedTerms.{PlannedTerms}
use Rattle.rpl_plans.specs.declared.test.PlannedTest.TheVariants.{PathIn}
use Rattle.rpl_plans.proofs.AtomLaws.{path_never}
use Rattle.rpl_plans.proofs.FitLaws.{never_fits}
use Rattle.rpl_plans.proofs.atoms.path.Goals as goal

pub returns-clause-holds : goal.returns-clause-holds
returns-clause-holds c r range =
    ap (λ (ts : PlannedTerms). terms_hold (planned_holds r) ts) c.or_never.ensures
    ∙ ap (λ (xs : List (List ℕ)). terms_hold (planned_holds r) (or_never (PathIn xs) c.in_ok-terms.terms)) c.new.ensures
    ∙ path_never r c.in_ok-terms.terms
    ∙ c.in_ok-terms.ensures.holds r range.path

pub returns-clause-fits : goal.returns-clause-fits
returns-clause-fits c =
    subst FitsTerms (sym c.or_never.ensures)
    (never_fits (PathIn c.new.result) c.in_ok-terms.terms (subst (λ (xs : List (List ℕ)). AllByRecursion FitsText xs) (sym c.new.ensures) tt) c.in_ok-terms.ensures.fits)
