use Rattle.aspath_text.proofs.Written.{adds_items, if_ok}
use Rattle.aspath_text.proofs.ios_print.push_branch.Goals as goal

pub returns-in-Some : goal.returns-in-Some
returns-in-Some c =
    if_ok c.push_items.result _ _
    (λ x e. adds_items c.args.out.now.items c.push_items.new.out.items c.args.branch.now c.as_slice.result.now c.in_ok-word_items.field-0 c.in-Some.items c.as_slice-in-Some.result.now c.in_ok-word_items.ensures c.as_slice.ensures c.in-Some.is c.as_slice-in-Some.ensures e)
    c.push_items.ensures
