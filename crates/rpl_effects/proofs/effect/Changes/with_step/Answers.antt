use Rattle.rpl_effects.proofs.ChangeLaws.{stepped}
use Rattle.rpl_effects.proofs.effect.Changes.with_step.Goals as goal

pub returns : goal.returns
returns g c = λ acts table. stepped acts table c.args.self c.args.step c.push.new.self c.in_ok-push.ensures
