use Rattle.std.proofs.Common.{◌∙◌, ap, subst}
use Rattle.rpl_layout.specs.Forms.{PlannedSets, HasFew, forms_of}
use Rattle.rpl_layout.specs.Sharing.{written_by}
use Rattle.rpl_policies.specs.Own.{own}
use Rattle.rpl_policies.proofs.Noted.{sets_noted}
use Rattle.rpl_policies.proofs.forms.forms_by_own.Goals as goal

pub returns-clause-forms : goal.returns-clause-forms
returns-clause-forms c =
    c.in_ok-forms.ensures.forms
    ∙ ap (λ (s : PlannedSets). forms_of c.args.name.now s (written_by own c.args.name.now s) c.args.steps.now) (c.in_ok-sets.ensures ∙ sets_noted c.args.steps.now)

pub returns-clause-few : goal.returns-clause-few
returns-clause-few c = subst HasFew (c.in_ok-sets.ensures ∙ sets_noted c.args.steps.now) c.in_ok-forms.ensures.few
