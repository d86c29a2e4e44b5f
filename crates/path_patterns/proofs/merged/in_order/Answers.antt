use Rattle.std.proofs.Common.{sym, ◌∙◌, subst, rules, List}
use Rattle.std.specs.List.Sorted.{IsPermutation}
use Rattle.path_patterns.specs.MergedRanges.{is_wide}
use Rattle.std.proofs.lemmas.List.Sorted.{answers_always, list_any-IsPermutation, IsNonDecreasingBy-from_sort}
use Rattle.path_patterns.specs.declared.items.NumberRange.{NumberRange}
use Rattle.path_patterns.proofs.MergedLaws.{sorted_in_order, sorted_same}
use Rattle.path_patterns.proofs.merged.in_order.Goals as goal

pub returns-clause-same : goal.returns-clause-same
returns-clause-same c = λ n.
    sorted_same c.args.ranges.now c.sort_by_key.new.self.items n (subst (λ (rs : List NumberRange). IsPermutation rs c.sort_by_key.new.self.items) c.in_ok-kept.ensures.kept c.in_ok-sort_by_key.ensures.permutation)

pub returns-clause-ordered : goal.returns-clause-ordered
returns-clause-ordered c =
    sorted_in_order c.args.ranges.now c.sort_by_key.new.self.items (subst (λ (rs : List NumberRange). IsPermutation rs c.sort_by_key.new.self.items) c.in_ok-kept.ensures.kept c.in_ok-sort_by_key.ensures.permutation)
    (IsNonDecreasingBy-from_sort (λ r. r.least) c.sort_by_key.new.self.items (c.in_ok-sort_by_key.ensures.sorted (λ r. r.least) (answers_always _ _ _ (λ f a r g h. search rules))))

pub returns-clause-bounded : goal.returns-clause-bounded
returns-clause-bounded c = sym (list_any-IsPermutation is_wide _ _ c.in_ok-sort_by_key.ensures.permutation) ∙ c.in_ok-kept.ensures.bounded
