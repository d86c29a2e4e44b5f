use Rattle.rpl_layout.proofs.Sharing.{names_sets}
use Rattle.rpl_layout.proofs.laws.plans_name_their_sets.Goals as goal

pub returns : goal.returns
returns c = names_sets
