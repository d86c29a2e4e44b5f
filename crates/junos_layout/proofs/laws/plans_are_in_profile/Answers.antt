use Rattle.junos_layout.proofs.InProfile.{plan_in_profile}
use Rattle.junos_layout.proofs.laws.plans_are_in_profile.Goals as goal

pub returns : goal.returns
returns c = plan_in_profile
