use Rattle.junos_writable.proofs.OwnNames.{own_names}
use Rattle.junos_writable.proofs.TermLaws.{plan_writable}
use Rattle.junos_writable.proofs.UsedNames.{used_names}
use Rattle.junos_writable.proofs.laws.plans_may_be_written.Goals as goal

pub returns-clause-written : goal.returns-clause-written
returns-clause-written c = plan_writable

pub returns-clause-names : goal.returns-clause-names
returns-clause-names c = own_names

pub returns-clause-uses : goal.returns-clause-uses
returns-clause-uses c = used_names
