use Rattle.rpl_effects.proofs.KeptLaws.{put_others}
use Rattle.rpl_effects.proofs.kept.Kept.put.Goals as goal

pub returns-clause-others : goal.returns-clause-others
returns-clause-others c = put_others c.args.self.now.entries c.insert.new.self c.args.key c.args.found c.in_ok-insert.ensures.updates
