use Rattle.rpl_forms.proofs.Agree.Found.{condition_agrees}
use Rattle.rpl_forms.proofs.laws.conditions_are_spelled.Goals as goal

pub returns-clause-found : goal.returns-clause-found
returns-clause-found c = condition_agrees.found

pub returns-clause-only : goal.returns-clause-only
returns-clause-only c = condition_agrees.only
