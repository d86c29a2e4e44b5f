use Rattle.junos_meaning.proofs.AnswerLaws.{known_right}
use Rattle.junos_meaning.proofs.answers.Answers.get.Goals as goal

pub returns : goal.returns
returns c all r right = known_right all r c.args.self.now.known c.args.calls c.args.name.now c.found.result c.found.ensures right
