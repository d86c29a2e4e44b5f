use Rattle.rpl_effects.proofs.ChangeLaws.{both_leave}
use Rattle.rpl_effects.proofs.effect.Changes.and_then.Goals as goal

pub returns-clause-leaves : goal.returns-clause-leaves
returns-clause-leaves g c = both_leave c.args.self c.args.later.now _ c.args.place c.in_ok-changes.ensures
