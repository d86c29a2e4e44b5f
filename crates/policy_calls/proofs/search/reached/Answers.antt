use Rattle.policy_calls.specs.Callees.{nows}
use Rattle.policy_calls.proofs.Closures.{closure_is}
use Rattle.policy_calls.proofs.search.reached.Goals as goal

pub returns : goal.returns
returns c = closure_is c.in_ok-callees.callees c.args.calls.now (nows c.args.names.now) c.in_ok-set.set c.in_ok-callees.ensures c.in_ok-set.ensures
