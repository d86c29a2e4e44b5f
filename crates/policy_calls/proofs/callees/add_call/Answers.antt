use Rattle.policy_calls.proofs.Maps.{callees_added, callees_pushed}
use Rattle.policy_calls.proofs.callees.add_call.Goals as goal

pub returns : goal.returns
returns c =
    callees_added c.args.callees.now c.taken_callees-taken.new.callees c.insert.new.self c.args.caller.now c.args.callee.now c.push.new.self c.taken_callees-taken.ensures.others
    (callees_pushed c.taken_callees-taken.result.items c.push.new.self.items c.args.callee _ c.in_ok-push.ensures.items c.taken_callees-taken.ensures.taken) c.in_ok-insert.ensures.updates
