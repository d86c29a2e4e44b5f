use Rattle.rpl_layout.proofs.InProfile.{plan_in_profile}
use Rattle.rpl_layout.proofs.laws.plans_are_in_profile.Goals as goal

pub returns : goal.returns
returns c name sets written steps items same names = plan_in_profile name sets written steps items same names.few names.writes
