use Rattle.junos_meaning.proofs.AnswerLaws.{noted, stay_right}
use Rattle.junos_meaning.proofs.answers.Answers.put.Goals as goal

pub returns : goal.returns
returns c all r right is =
    stay_right all r c.args.self.now.known c.insert.new.self c.args.name.now c.args.calls c.args.answer right is
    (noted c.args.name.now c.args.calls c.args.answer c.args.self.now.known c.insert.new.self c.in_ok-insert.ensures.updates)
