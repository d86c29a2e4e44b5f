use Rattle.settled_graph.proofs.MakeLaws.{fork_settles}
use Rattle.settled_graph.proofs.make.fork.Goals as goal

pub returns-clause-settles : goal.returns-clause-settles
returns-clause-settles c = λ old sound forks.
    fork_settles old c.args.core.now c.branch_by_answer.new.core c.args.memo.now c.args.key.now c.in_ok-met.met c.in_ok-unmet.unmet c.args.asking c.found-yes.result c.found-no.result c.in_ok-node.node
    c.in_ok-met.ensures c.in_ok-unmet.ensures c.found-yes.ensures c.found-no.ensures c.in_ok-node.ensures sound forks
