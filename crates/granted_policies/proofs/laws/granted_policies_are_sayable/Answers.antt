use Rattle.expressible_table.specs.declared.kind.Dialect.TheVariants.{Ios, Junos, Rpl}
use Rattle.granted_policies.proofs.Policies.{policy_says}
use Rattle.granted_policies.proofs.laws.granted_policies_are_sayable.Goals as goal

pub returns : goal.returns
returns c = record { ios = policy_says Ios; junos = policy_says Junos; rpl = policy_says Rpl }
