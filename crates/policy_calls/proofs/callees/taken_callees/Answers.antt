use Rattle.std.proofs.Common.{None}
use Rattle.policy_calls.proofs.Maps.{callees_others}
use Rattle.policy_calls.proofs.callees.taken_callees.Goals as goal

pub returns-in-Some-clause-others : goal.returns-in-Some-clause-others
returns-in-Some-clause-others c = λ q e. callees_others c.args.callees.now c.remove.new.self c.args.caller.now None c.remove.ensures.updates q e
