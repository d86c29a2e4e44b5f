use Rattle.rpl_meaning.proofs.ConditionLaws.{terms_answer}
use Rattle.rpl_meaning.proofs.laws.conditions_hold.Goals as goal

pub returns : goal.returns
returns c = terms_answer
