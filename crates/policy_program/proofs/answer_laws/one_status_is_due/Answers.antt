use Rattle.policy_program.proofs.Due.{one_status, served_or, served_not}
use Rattle.policy_program.proofs.answer_laws.one_status_is_due.Goals as goal

pub returns-clause-one : goal.returns-clause-one
returns-clause-one c = one_status

pub returns-clause-some : goal.returns-clause-some
returns-clause-some c = served_or

pub returns-clause-not_both : goal.returns-clause-not_both
returns-clause-not_both c = served_not
