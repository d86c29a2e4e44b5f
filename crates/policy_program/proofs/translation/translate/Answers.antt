use Rattle.policy_program.proofs.NewNames.{new_name_heads}
use Rattle.policy_program.proofs.Right.{loaded_of_text, answers}
use Rattle.policy_program.proofs.translation.translate.Goals as goal

pub write_policy-requires-clause-of_text : goal.write_policy-requires-clause-of_text
write_policy-requires-clause-of_text c = loaded_of_text c.args.source.now c.args.policy.now c.in-Ok.checked c.in-Ok.ensures.loaded

pub write_policy-requires-clause-named : goal.write_policy-requires-clause-named
write_policy-requires-clause-named c = new_name_heads c.args.name.now c.requires

pub returns-in-Ok : goal.returns-in-Ok
returns-in-Ok c = answers c.args.source.now c.args.policy.now c.args.name.now c.in-Ok.checked c.write_policy.result c.in-Ok.ensures.loaded c.write_policy.ensures
