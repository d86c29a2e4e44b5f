use Rattle.junos_printer.proofs.Printed.{lent_plan_says}
use Rattle.junos_printer.proofs.print.definitions_of.Goals as goal

pub returns : goal.returns
returns c =
    lent_plan_says c.args.name.now c.args.steps.now c.in_ok-planned.planned c.as_slice.result.now c.in_ok-options.options c.requires.named c.in_ok-planned.ensures.fits c.in_ok-planned.ensures.outcome
    c.as_slice.ensures c.in_ok-options.ensures
