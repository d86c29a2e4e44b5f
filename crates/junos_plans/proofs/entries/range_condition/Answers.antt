use Rattle.std.proofs.Common.{◌∙◌, ◌++◌, ◌∷◌, [], ap, sym, subst, List}
use Rattle.prefix_sets.specs.Range.{RangeParts}
use Rattle.junos_plans.specs.Fits.{FitsCondition}
use Rattle.junos_plans.specs.declared.condition.PlannedCondition.TheVariants.{Destination}
use Rattle.junos_plans.proofs.ApartLaws.{alone_fits}
use Rattle.junos_plans.proofs.entries.range_condition.Goals as goal

pub returns-in_ok-push-in-Destination-clause-fits : goal.returns-in_ok-push-in-Destination-clause-fits
returns-in_ok-push-in-Destination-clause-fits c =
    subst (λ (xs : List RangeParts). FitsCondition (Destination xs))
    (sym (c.in_ok-push-in-Destination.ensures ∙ ap (λ (xs : List RangeParts). xs ++ c.cut_range.result ∷ []) c.new-ranges.ensures))
    (alone_fits c.cut_range.result c.cut_range.ensures.fits)
