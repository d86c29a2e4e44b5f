use Rattle.std.proofs.Common.{sym, ap, ◌∙◌, not, Bool, List, ◌++◌}
use Rattle.path_patterns.specs.JunosItems.{items_of}
use Rattle.path_patterns.specs.declared.items.NumberRange.{NumberRange}
use Rattle.path_patterns.proofs.JunosAdds.{adds_never, adds_none, adds_count}
use Rattle.path_patterns.proofs.junos_items.add_items.Goals as goal

pub returns-then-never_taken : goal.returns-then-never_taken
returns-then-never_taken c =
    adds_never c.args.item.now c.in_ok-ranges.ranges c.args.items.now _ (ap (λ (b : Bool). not b) c.is_empty-has_numbers.ensures) c.in_ok-ranges.ensures.same.1 (sym c.never_taken.ensures ∙ c.if-never_taken.true)

pub returns-then-takes_none : goal.returns-then-takes_none
returns-then-takes_none c =
    adds_none c.args.item.now c.in_ok-ranges.ranges c.args.items.now _ (ap (λ (b : Bool). not b) c.is_empty-has_numbers.ensures) c.in_ok-ranges.ensures.same.1 (sym c.takes_none.ensures ∙ c.if-takes_none.true)

pub returns : goal.returns
returns c =
    adds_count c.args.item.now c.in_ok-ranges.ranges c.args.items.now c.add_count.new.items _ (ap (λ (b : Bool). not b) c.is_empty-has_numbers.ensures) c.in_ok-ranges.ensures.same.0 c.in_ok-ranges.ensures.same.1 c.in_ok-ranges.ensures.bounded
    (sym c.never_taken.ensures ∙ c.if-never_taken.false)
    (sym c.takes_none.ensures ∙ c.if-takes_none.false)
    (c.in_ok-add_count.ensures ∙ ap (λ (rs : List NumberRange). c.args.items.now ++ items_of rs c.args.item.now.least c.args.item.now.most) c.as_slice.ensures)
