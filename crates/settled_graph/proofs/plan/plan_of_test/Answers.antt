use Rattle.settled_graph.proofs.PlanLaws.{test_asks}
use Rattle.settled_graph.proofs.plan.plan_of_test.Goals as goal

pub returns-in_default : goal.returns-in_default
returns-in_default c nodes facts at = test_asks nodes c.args.key.now c.args.atom.now c.in_ok-answer.answer c.args.met c.args.unmet facts at c.in_ok-answer.ensures
