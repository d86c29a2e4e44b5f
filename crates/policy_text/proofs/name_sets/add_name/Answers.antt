use Rattle.policy_text.proofs.NameSets.{name_added}
use Rattle.policy_text.proofs.name_sets.add_name.Goals as goal

pub returns : goal.returns
returns c = name_added c.args.name.now c.args.sort c.args.number c.args.names.now c.insert.new.self c.in_ok-insert.ensures.updates
