use Rattle.rpl_writable.proofs.OwnNames.{own_names}
use Rattle.rpl_writable.proofs.Writable.{plan_writable}
use Rattle.rpl_writable.proofs.laws.plans_may_be_written.Goals as goal

pub returns-clause-written : goal.returns-clause-written
returns-clause-written c = plan_writable

pub returns-clause-names : goal.returns-clause-names
returns-clause-names c = own_names
