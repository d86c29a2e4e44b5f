use Rattle.junos_layout.proofs.Sharing.{names_definitions}
use Rattle.junos_layout.proofs.laws.plans_name_their_definitions.Goals as goal

pub returns : goal.returns
returns c = names_definitions
