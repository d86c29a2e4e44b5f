use Rattle.std.proofs.Common.{subst}
use Rattle.settled_graph.specs.Plans.{IsPlan}
use Rattle.settled_graph.specs.declared.plan.Plan.{Plan}
use Rattle.settled_graph.proofs.MakeLaws.{end_settles, next_settles}
use Rattle.settled_graph.proofs.make.node_of.Goals as goal

pub returns-in-Goes-clause-settles : goal.returns-in-Goes-clause-settles
returns-in-Goes-clause-settles c = λ old sound plan.
    next_settles old c.args.core.now c.args.memo.now c.args.key.now c.in-Goes.next c.found.result c.found.ensures sound (subst (λ (p : Plan). IsPlan old c.args.key.now p) c.in-Goes.is plan)

pub returns-in_ok-node-in-Ends-clause-settles : goal.returns-in_ok-node-in-Ends-clause-settles
returns-in_ok-node-in-Ends-clause-settles c = λ old sound plan.
    end_settles old c.args.core.now c.end_behind.new.core c.args.key.now c.in-Ends.accept c.in_ok-node-in-Ends.node c.in_ok-node-in-Ends.ensures (subst (λ (p : Plan). IsPlan old c.args.key.now p) c.in-Ends.is plan)
