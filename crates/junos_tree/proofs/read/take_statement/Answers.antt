use Rattle.std.proofs.Common.{List, ap, ◌∙◌}
use Rattle.text_words.specs.declared.statement.Word.{Word}
use Rattle.junos_tree.specs.Tree.{said_by}
use Rattle.junos_tree.proofs.Reading.{took}
use Rattle.junos_tree.proofs.read.take_statement.Goals as goal

pub returns : goal.returns
returns c =
    let said = c.in_ok-said.ensures.said ∙ ap (λ (ws : List Word). said_by c.args.places.now c.args.statement.now.ender ws) c.as_slice.ensures in
    λ more. took c.args.items.now c.push_item.new.items c.args.places.now c.said_by.new.places c.follow.new.places c.args.statement.now more c.in_ok-said.said said c.in_ok-said.ensures.places c.in_ok-follow.ensures c.in_ok-push_item.ensures
