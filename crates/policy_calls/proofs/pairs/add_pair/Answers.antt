use Rattle.policy_calls.proofs.PairSets.{pair_added}
use Rattle.policy_calls.proofs.pairs.add_pair.Goals as goal

pub returns : goal.returns
returns c = pair_added c.args.caller.now c.args.callee.now c.args.pairs.now c.insert.new.self c.in_ok-insert.ensures.updates
