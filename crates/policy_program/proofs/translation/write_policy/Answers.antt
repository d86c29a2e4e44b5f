-- what is granted can be said
use Rattle.std.proofs.Common.{subst}
use Rattle.expressible_table.specs.Constructs.{constructs_of}
use Rattle.expressible_table.specs.Missing.{LacksFirst}
use Rattle.expressible_table.specs.declared.kind.Dialect.TheVariants.{Rpl}
use Rattle.policy_program.proofs.Right.{granted_says}
use Rattle.policy_program.proofs.translation.write_policy.Goals as goal

pub print_policy-requires-clause-sayable : goal.print_policy-requires-clause-sayable
print_policy-requires-clause-sayable c =
    granted_says c.args.policy c.requires.of_text (subst (LacksFirst Rpl (constructs_of c.args.policy)) c.in-Ok-None.field-0-is c.in-Ok-None.ensures.found)
