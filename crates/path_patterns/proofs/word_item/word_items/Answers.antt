use Rattle.std.proofs.Common.{subst, drop}
use Rattle.path_patterns.specs.WordItems.{AddsItem}
use Rattle.path_patterns.proofs.ItemWords.{AreFound, found_never}
use Rattle.path_patterns.proofs.Lists.{first_rest}
use Rattle.path_patterns.proofs.word_item.word_items.Goals as goal

pub returns-then-not-branch : goal.returns-then-not-branch
returns-then-not-branch c =
    let rest = c.loop-rest.rest.now in
    let item = c.item-item.result in
    found_never c.loop-rest.found c.add_item.new.found item (drop 1 rest) c.args.items.now
    (subst (λ xs. AreFound c.loop-rest.found xs c.args.items.now) (first_rest rest item c.in-len1-up.len_at_least c.item-item.is) c.loop-rest.invariant)
    (subst (AddsItem c.loop-rest.found item c.add_item.new.found) c.if-not-branch.true c.in_ok-add_item.ensures)
