use Rattle.std.proofs.Common.{◌∙◌}
use Rattle.rpl_policies.proofs.AnyTells.{forms_alike, few_alike}
use Rattle.rpl_policies.proofs.forms.policy_forms.Goals as goal

pub returns-clause-forms : goal.returns-clause-forms
returns-clause-forms c tells = c.in_ok-forms.ensures.forms ∙ forms_alike c.args.name.now c.args.steps.now tells

pub returns-clause-few : goal.returns-clause-few
returns-clause-few c tells = few_alike c.args.steps.now tells c.in_ok-forms.ensures.few
