use Rattle.ios_meaning.proofs.PrefixLists.{prefix_answers}
use Rattle.ios_meaning.proofs.answers.on_prefix.Goals as goal

pub returns : goal.returns
returns c = prefix_answers c.args.items.now (record { address = c.args.address.now; length = c.args.length }) c.in_ok-found.found c.in_ok-found.ensures
