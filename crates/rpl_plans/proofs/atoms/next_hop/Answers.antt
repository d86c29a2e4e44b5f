use Rattle.std.proofs.Common.{◌∙◌, ap, sym, subst, [], List}
use Rattle.std.specs.List.{AllByRecursion}
use Rattle.prefix_sets.specs.Range.{RangeParts}
use Rattle.rpl_plans.specs.Choices.{terms_hold, or_never}
use Rattle.rpl_plans.specs.Fits.{FitsRange, FitsTerms}
use Rattle.rpl_plans.specs.Holds.{planned_holds}
use Rattle.rpl_plans.specs.declared.choice.PlannedTerm.{PlannedTerm}
use Rattle.rpl_plans.specs.declared.choice.PlannedTerms.{PlannedTerms}
use Rattle.rpl_plans.specs.declared.test.PlannedTest.TheVariants.{NextHop}
use Rattle.rpl_plans.proofs.AtomLaws.{hop_says}
use Rattle.rpl_plans.proofs.FitLaws.{never_fits}
use Rattle.rpl_plans.proofs.atoms.next_hop.Goals as goal

pub returns-clause-holds : goal.returns-clause-holds
returns-clause-holds c r range =
    ap (λ (ts : PlannedTerms). terms_hold (planned_holds r) ts) c.or_never.ensures
    ∙ ap (λ (xs : List RangeParts). terms_hold (planned_holds r) (or_never (NextHop xs) c.in_ok-terms.terms)) c.new.ensures
    ∙ ap (λ (ts : List PlannedTerm). terms_hold (planned_holds r) (or_never (NextHop []) ts)) c.in_ok-terms.ensures.same
    ∙ hop_says r c.args.lists.now range

pub returns-clause-fits : goal.returns-clause-fits
returns-clause-fits c =
    subst FitsTerms (sym c.or_never.ensures)
    (never_fits (NextHop c.new.result) c.in_ok-terms.terms (subst (λ (xs : List RangeParts). AllByRecursion FitsRange xs) (sym c.new.ensures) tt) c.in_ok-terms.ensures.fits)
