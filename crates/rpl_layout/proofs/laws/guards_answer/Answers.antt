use Rattle.std.proofs.Common.{◌∙◌}
use Rattle.rpl_meaning.proofs.ConditionLaws.{terms_answer}
use Rattle.rpl_layout.specs.Guards.{guard_condition}
use Rattle.rpl_layout.proofs.GuardLaws.{guard_answers}
use Rattle.rpl_layout.proofs.ShapeLaws.{guard_shaped}
use Rattle.rpl_layout.proofs.laws.guards_answer.Goals as goal

pub returns-clause-answers : goal.returns-clause-answers
returns-clause-answers c test written l ls = terms_answer test (guard_condition written l ls) ∙ guard_answers test written l ls

pub returns-clause-shaped : goal.returns-clause-shaped
returns-clause-shaped c = guard_shaped
