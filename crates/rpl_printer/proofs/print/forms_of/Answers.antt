use Rattle.rpl_policies.specs.Own.{own}
use Rattle.rpl_printer.proofs.Printed.{lent_forms, forms_say}
use Rattle.rpl_printer.proofs.print.forms_of.Goals as goal

pub returns : goal.returns
returns c =
    forms_say c.args.name.now c.args.steps.now c.in_ok-planned.planned c.in_ok-forms.forms c.requires.named c.in_ok-planned.ensures.fits c.in_ok-planned.ensures.outcome
    (lent_forms c.args.name.now c.in_ok-planned.planned c.as_slice.result.now c.in_ok-forms.forms c.as_slice.ensures (c.in_ok-forms.ensures.few own) (c.in_ok-forms.ensures.forms own))
