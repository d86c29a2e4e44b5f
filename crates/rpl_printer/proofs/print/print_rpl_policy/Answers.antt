use Rattle.std.proofs.Common.{subst, sym}
use Rattle.rpl_text.specs.Written.{MayBeWritten}
use Rattle.rpl_printer.proofs.Printed.{printed}
use Rattle.rpl_printer.proofs.print.print_rpl_policy.Goals as goal

pub write_rpl-requires : goal.write_rpl-requires
write_rpl-requires c = subst MayBeWritten (sym c.as_slice.ensures) c.in_ok-forms.ensures.written

pub returns : goal.returns
returns c = printed c.args.name.now c.in_ok-text.text c.args.steps.now c.in_ok-forms.forms c.as_slice.result.now c.in_ok-forms.ensures c.as_slice.ensures c.in_ok-text.ensures.tree c.in_ok-text.ensures.blocks
