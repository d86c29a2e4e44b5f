use Rattle.std.proofs.Common.{sym, ◌∙◌}
use Rattle.ios_lower.proofs.ChangeSteps.{passed_over, taken_in}
use Rattle.ios_lower.proofs.changes.push_line.Goals as goal

pub returns-then-is_of_sort : goal.returns-then-is_of_sort
returns-then-is_of_sort c = λ lines rest b.
    taken_in c.args.lists.now.items.now c.args.deleting c.args.line.now c.args.found.now.items c.in_ok-changes.changes.items c.append.new.self.items lines rest
    (sym c.is_of_sort.ensures ∙ c.if-is_of_sort.true) c.in_ok-changes.ensures c.in_ok-append.ensures.items b

pub returns : goal.returns
returns c = λ lines rest b. passed_over c.args.lists.now.items.now c.args.deleting c.args.line.now c.args.found.now.items lines rest (sym c.is_of_sort.ensures ∙ c.if-is_of_sort.false) b
