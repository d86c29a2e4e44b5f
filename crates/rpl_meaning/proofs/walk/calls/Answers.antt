use Rattle.rpl_meaning.proofs.StepLaws.{apply_calls}
use Rattle.rpl_meaning.proofs.walk.calls.Goals as goal

pub returns : goal.returns
returns c = λ w bs. apply_calls w bs c.args.apply c.args.run
