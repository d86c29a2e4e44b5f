use Rattle.std.proofs.Common.{refl}
use Rattle.step_search.proofs.Closed.{none_put, one_put, all_put}
use Rattle.step_search.proofs.found.add_all.Goals as goal

pub loop-rest-init : goal.loop-rest-init
loop-rest-init g c = none_put c.args.found.now.keys c.args.more.now

pub loop-rest-preserved : goal.loop-rest-preserved
loop-rest-preserved g c = one_put c.args.found.now.keys c.loop-rest.found.keys c.add.new.found.keys c.args.more.now c.loop-rest.rest.now c.first-item.result _ c.in-len1-up.len_at_least c.first-item.is refl c.loop-rest.invariant c.in_ok-add.ensures

pub returns-clause-added : goal.returns-clause-added
returns-clause-added g c = all_put c.args.found.now.keys c.loop-rest.found.keys c.args.more.now c.loop-rest.rest.now c.loop-rest.invariant c.in_default.len_below
