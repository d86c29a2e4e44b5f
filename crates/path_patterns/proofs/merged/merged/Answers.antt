use Rattle.std.proofs.Common.{sym, ap, subst, ◌∙◌, List}
use Rattle.std.specs.List.{list_any}
use Rattle.path_patterns.specs.Items.{in_range}
use Rattle.path_patterns.specs.MergedRanges.{AreInOrder, is_wide}
use Rattle.path_patterns.specs.declared.items.NumberRange.{NumberRange}
use Rattle.path_patterns.proofs.MergedLaws.{merged_is, bounded_is}
use Rattle.path_patterns.proofs.RisingRanges.{exact_is}
use Rattle.path_patterns.proofs.merged.merged.Goals as goal

pub returns-clause-same : goal.returns-clause-same
returns-clause-same c =
    merged_is c.args.set.now.ranges c.as_slice-2.result.now c.joined.result c.joined.ensures
    (subst AreInOrder (sym c.as_slice-2.ensures.value) c.in_ok-ordered.ensures.ordered)
    (λ n. ap (λ (rs : List NumberRange). list_any (λ r. in_range r n) rs) c.as_slice-2.ensures.value ∙ c.in_ok-ordered.ensures.same n ∙ ap (λ (rs : List NumberRange). list_any (λ r. in_range r n) rs) c.as_slice.ensures)

pub returns-clause-bounded : goal.returns-clause-bounded
returns-clause-bounded c =
    bounded_is c.as_slice-2.result.now c.joined.result c.joined.ensures (ap (λ (rs : List NumberRange). list_any is_wide rs) c.as_slice-2.ensures.value ∙ c.in_ok-ordered.ensures.bounded)

pub returns-clause-exact : goal.returns-clause-exact
returns-clause-exact c = exact_is c.args.set.now.ranges c.joined.result (returns-clause-same c)
