use Rattle.rpl_effects.proofs.ChangeLaws.{none_leaves}
use Rattle.rpl_effects.proofs.effect.Changes.none.Goals as goal

pub returns : goal.returns
returns g c = λ acts table. none_leaves acts table _ _ c.new.ensures c.new-2.ensures
