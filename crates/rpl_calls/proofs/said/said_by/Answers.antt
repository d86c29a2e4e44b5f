use Rattle.std.proofs.Common.{refl}
use Rattle.rpl_calls.proofs.Saying.{begins, goes, all_calls, all_asks, all_settings}
use Rattle.rpl_calls.proofs.said.said_by.Goals as goal

pub loop-rest-init : goal.loop-rest-init
loop-rest-init c = begins c.args.items.now _ c.new.ensures c.new-2.ensures c.new-3.ensures

pub loop-rest-preserved : goal.loop-rest-preserved
loop-rest-preserved c = goes c.args.items.now c.loop-rest.rest.now c.first-item.result _ c.loop-rest.said c.say.new.said c.loop-rest.policy _ c.in-len1-up.len_at_least c.first-item.is refl c.in_ok-policy.ensures c.loop-rest.invariant

pub returns-clause-calls : goal.returns-clause-calls
returns-clause-calls c = all_calls c.args.items.now c.loop-rest.rest.now c.loop-rest.said c.loop-rest.policy c.loop-rest.invariant c.in_default.len_below

pub returns-clause-asks : goal.returns-clause-asks
returns-clause-asks c = all_asks c.args.items.now c.loop-rest.rest.now c.loop-rest.said c.loop-rest.policy c.loop-rest.invariant c.in_default.len_below

pub returns-clause-settings : goal.returns-clause-settings
returns-clause-settings c = all_settings c.args.items.now c.loop-rest.rest.now c.loop-rest.said c.loop-rest.policy c.loop-rest.invariant c.in_default.len_below
