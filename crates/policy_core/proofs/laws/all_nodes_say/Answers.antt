use Rattle.policy_core.proofs.SaidLaws.{all_said}
use Rattle.policy_core.proofs.laws.all_nodes_say.Goals as goal

pub returns : goal.returns
returns c = all_said
