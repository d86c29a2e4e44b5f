use Rattle.rpl_effects.proofs.ChangeLaws.{not_prepended, prepended}
use Rattle.rpl_effects.proofs.effect.Changes.with_prepended.Goals as goal

pub returns-then-count-eq0 : goal.returns-then-count-eq0
returns-then-count-eq0 g c = λ acts table. not_prepended acts table c.args.self c.args.number c.args.count c.if-count-eq0.true

pub returns : goal.returns
returns g c = λ acts table. prepended acts table c.args.self c.args.number c.args.count c.push.new.self c.in_ok-push.ensures
