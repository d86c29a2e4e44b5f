use Rattle.settled_graph.proofs.MakeLaws.{noted}
use Rattle.settled_graph.proofs.tasks.make_node.Goals as goal

pub returns-clause-noted : goal.returns-clause-noted
returns-clause-noted c = noted c.args.memo.now c.note.new.memo c.args.key c.in_ok-node.node c.in_ok-note.ensures
