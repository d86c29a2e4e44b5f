use Rattle.bit_diagrams.proofs.StoreLemmas.{keeps_grows}
use Rattle.bit_diagrams.proofs.CallLemmas.{choice_stands}
use Rattle.bit_diagrams.proofs.store.Diagrams.make.Goals as goal

pub returns-in-Ok-clause-made : goal.returns-in-Ok-clause-made
returns-in-Ok-clause-made c =
    choice_stands c.args.self.now c.settle.new.self c.args.choice c.in-Ok.id c.settle.ensures.grows
    c.requires c.in-Ok.ensures.answer

pub returns-in-Ok-clause-keeps : goal.returns-in-Ok-clause-keeps
returns-in-Ok-clause-keeps c = keeps_grows c.args.self.now c.settle.new.self c.settle.ensures.grows
