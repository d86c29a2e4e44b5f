use Rattle.policy_request.proofs.Chains.{given_at_end}
use Rattle.policy_request.proofs.language.is_chain.Goals as goal

pub returns : goal.returns
returns c = given_at_end c.loop-rest.begun c.loop-rest.rest.now c.args.word.now c.in_default.len_below c.loop-rest.invariant
