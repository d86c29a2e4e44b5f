use Rattle.rpl_layout.proofs.Meaning.{plan_means}
use Rattle.rpl_layout.proofs.laws.plans_mean_their_steps.Goals as goal

pub returns : goal.returns
returns c name sets written steps names = plan_means name sets written steps names.few names.writes
