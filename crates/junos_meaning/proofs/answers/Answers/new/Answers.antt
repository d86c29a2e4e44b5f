use Rattle.junos_meaning.proofs.AnswerLaws.{none_right}
use Rattle.junos_meaning.proofs.answers.Answers.new.Goals as goal

pub returns : goal.returns
returns c all r = none_right all r c.nothing_known.result c.nothing_known.ensures
