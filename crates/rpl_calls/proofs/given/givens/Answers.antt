use Rattle.rpl_calls.proofs.Found.{givens_sound, givens_whole}
use Rattle.rpl_calls.proofs.given.givens.Goals as goal

pub returns-clause-sound : goal.returns-clause-sound
returns-clause-sound c = λ g h. givens_sound c.args.arguments.now c.args.start.now c.requires g (c.in_ok-found.ensures.sound g h)

pub returns-clause-whole : goal.returns-clause-whole
returns-clause-whole c = λ g h. c.in_ok-found.ensures.whole g (givens_whole c.args.arguments.now c.args.start.now c.requires g h)
