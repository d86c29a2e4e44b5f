use Rattle.std.proofs.Common.{◌∙◌, ◌++◌, ◌∷◌, [], ap, List}
use Rattle.rpl_words.specs.declared.condition.Term.{Term}
use Rattle.rpl_forms.specs.declared.item.PolicyStatement.TheVariants.{If, EndIf}
use Rattle.rpl_forms.specs.declared.item.RplForm.TheVariants.{Statement}
use Rattle.rpl_policies.proofs.Rows.{put_between}
use Rattle.rpl_policies.proofs.statements.push_guarded.Goals as goal

pub returns : goal.returns
returns c following =
    let opened = c.in_ok-push.ensures ∙ ap (λ (ts : List Term). c.args.out.now ++ Statement (If ts) ∷ []) c.in_ok-terms.ensures in
    put_between _ _ _ _ _ (Statement EndIf) _ following opened c.in_ok-push_body.ensures c.in_ok-push-2.ensures
