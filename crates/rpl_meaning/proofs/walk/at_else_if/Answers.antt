use Rattle.rpl_meaning.specs.Blocks.{word_in}
use Rattle.rpl_meaning.proofs.StepLaws.{else_if_does}
use Rattle.rpl_meaning.proofs.walk.at_else_if.Goals as goal

pub returns : goal.returns
returns c = else_if_does c.args.world.now (word_in c.args.words.now.entries) c.args.terms.now c.args.run c.in_ok-holds.holds c.behind_condition.result c.in_ok-holds.ensures c.behind_condition.ensures
