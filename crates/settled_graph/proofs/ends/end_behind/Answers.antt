use Rattle.settled_graph.proofs.EndLaws.{rejects_behind}
use Rattle.settled_graph.proofs.ends.end_behind.Goals as goal

pub returns-then-not-accept : goal.returns-then-not-accept
returns-then-not-accept c =
    rejects_behind c.args.core.now c.stop.new.self c.args.accept c.args.pending.now c.in_ok-node.node c.if-not-accept.true c.in_ok-node.ensures.made c.in_ok-node.ensures.keeps
