use Rattle.std.proofs.Common.{sym, ◌∙◌}
use Rattle.ios_meaning.proofs.PrefixLists.{next_hop_of_family}
use Rattle.ios_meaning.proofs.answers.next_hop_holds.Goals as goal

pub returns-in-At : goal.returns-in-At
returns-in-At c =
    next_hop_of_family c.args.answers.now.items.now c.args.answers.now.route.now.next_hop c.in-At.address c.args.answers.now.next_hop_lists c.args.line.now.family c.args.line.now.lists c.some_of_family.result
    (sym c.next_hop.ensures ∙ c.in-At.is) c.requires.on_next_hop c.some_of_family.ensures
