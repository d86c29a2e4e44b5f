use Rattle.rpl_calls.proofs.Tables.{put_under}
use Rattle.rpl_calls.proofs.parameters.ParameterMap.put.Goals as goal

pub returns : goal.returns
returns c = put_under c.args.parameter.policy.now c.args.parameter.place c.args.value c.args.self.now.entries c.insert.new.self c.in_ok-insert.ensures.updates
