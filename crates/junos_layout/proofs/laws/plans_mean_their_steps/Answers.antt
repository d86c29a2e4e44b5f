use Rattle.junos_layout.proofs.Meaning.{plan_means}
use Rattle.junos_layout.proofs.laws.plans_mean_their_steps.Goals as goal

pub returns : goal.returns
returns c = plan_means
