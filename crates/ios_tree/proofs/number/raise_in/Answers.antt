use Rattle.ios_tree.proofs.Reading.Numbers.{raised}
use Rattle.ios_tree.proofs.number.raise_in.Goals as goal

pub returns-in_ok-insert : goal.returns-in_ok-insert
returns-in_ok-insert c = raised c.args.list.now c.args.number c.args.numbers.now c.insert.new.self (rw c.greatest_in.ensures at c.if-greatest_in-number.true) c.in_ok-insert.ensures.updates
