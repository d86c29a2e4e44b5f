use Rattle.junos_plans.proofs.PlanLaws.{steps_same}
use Rattle.junos_plans.proofs.plans.planned_steps.Goals as goal

pub returns-clause-outcome : goal.returns-clause-outcome
returns-clause-outcome c r range = steps_same r range c.args.steps.now c.in_ok-found.found c.in_ok-found.ensures.says
