use Rattle.std.proofs.Common.{subst, sym}
use Rattle.junos_text.specs.Written.{MayBeWritten}
use Rattle.junos_printer.proofs.Printed.{printed}
use Rattle.junos_printer.proofs.print.print_junos_policy.Goals as goal

pub write_junos-requires : goal.write_junos-requires
write_junos-requires c = subst MayBeWritten (sym c.as_slice.ensures) c.in_ok-options.ensures.written

pub returns : goal.returns
returns c = printed c.args.name.now c.in_ok-text.text c.args.steps.now c.in_ok-options.options c.as_slice.result.now c.in_ok-options.ensures c.as_slice.ensures c.in_ok-text.ensures.text c.in_ok-text.ensures.tree
