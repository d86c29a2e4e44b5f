use Rattle.ios_lower.proofs.NamedLaws.{entry_added}
use Rattle.ios_lower.proofs.named.add_entry.Goals as goal

pub returns : goal.returns
returns g c = entry_added c.args.lists.now c.add.new.lists c.args.name.now c.args.entry c.in_ok-add.ensures
