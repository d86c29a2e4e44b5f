use Rattle.aspath_text.proofs.JunosPrinted.{prints}
use Rattle.aspath_text.proofs.junos_print.print_junos.Goals as goal

pub returns : goal.returns
returns c =
    prints c.args.branch.now c.as_slice.result.now c.in-Some.items c.as_slice-2.result.now c.in_ok-items.field-0 c.in_ok-text_of.field-0.items c.as_slice.ensures c.in_ok-items.ensures c.in-Some.is c.as_slice-2.ensures c.in_ok-text_of.ensures
