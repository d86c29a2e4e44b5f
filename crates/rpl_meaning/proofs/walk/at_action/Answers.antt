use Rattle.rpl_meaning.specs.Blocks.{word_in}
use Rattle.rpl_meaning.proofs.StepLaws.{action_does}
use Rattle.rpl_meaning.proofs.walk.at_action.Goals as goal

pub returns : goal.returns
returns c = action_does c.args.world.now (word_in c.args.words.now.entries) c.args.action.now c.args.run c.in_ok-changes.changes c.with_ticket.result c.in_ok-changes.ensures c.with_ticket.ensures
