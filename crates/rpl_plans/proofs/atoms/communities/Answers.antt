use Rattle.std.proofs.Common.{◌∙◌, ap, sym, subst, [], List}
use Rattle.std.specs.List.{AllByRecursion}
use Rattle.route_types.specs.Community.{RectParts}
use Rattle.rpl_plans.specs.Choices.{terms_hold, or_never}
use Rattle.rpl_plans.specs.Fits.{FitsRect, FitsTerms}
use Rattle.rpl_plans.specs.Holds.{planned_holds}
use Rattle.rpl_plans.specs.declared.choice.PlannedTerm.{PlannedTerm}
use Rattle.rpl_plans.specs.declared.choice.PlannedTerms.{PlannedTerms}
use Rattle.rpl_plans.specs.declared.test.PlannedTest.TheVariants.{MatchesAny}
use Rattle.rpl_plans.proofs.AtomLaws.{comm_says}
use Rattle.rpl_plans.proofs.FitLaws.{never_fits}
use Rattle.rpl_plans.proofs.atoms.communities.Goals as goal

pub returns-clause-holds : goal.returns-clause-holds
returns-clause-holds c r range =
    ap (λ (ts : PlannedTerms). terms_hold (planned_holds r) ts) c.or_never.ensures
    ∙ ap (λ (xs : List RectParts). terms_hold (planned_holds r) (or_never (MatchesAny xs) c.in_ok-terms.terms)) c.new.ensures
    ∙ ap (λ (ts : List PlannedTerm). terms_hold (planned_holds r) (or_never (MatchesAny []) ts)) c.in_ok-terms.ensures.same
    ∙ comm_says r c.args.lists.now c.requires

pub returns-clause-fits : goal.returns-clause-fits
returns-clause-fits c =
    subst FitsTerms (sym c.or_never.ensures)
    (never_fits (MatchesAny c.new.result) c.in_ok-terms.terms (subst (λ (xs : List RectParts). AllByRecursion FitsRect xs) (sym c.new.ensures) tt) c.in_ok-terms.ensures.fits)
