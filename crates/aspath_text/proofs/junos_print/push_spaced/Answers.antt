use Rattle.aspath_text.proofs.JunosBehind.{items_pushed}
use Rattle.aspath_text.proofs.junos_print.push_spaced.Goals as goal

pub returns : goal.returns
returns c =
    items_pushed c.args.first.now c.args.others.now c.args.out.now.items c.push_item.new.out.items c.push_later.new.out.items c.in_ok-push_item.ensures c.in_ok-push_later.ensures
