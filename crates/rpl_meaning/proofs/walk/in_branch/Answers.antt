use Rattle.std.proofs.Common.{refl, sym, ap, ◌∙◌, subst}
use Rattle.std.specs.Prelude.{IfOk}
use Rattle.rpl_forms.specs.declared.item.PolicyStatement.{PolicyStatement}
use Rattle.rpl_forms.specs.declared.item.PolicyStatement.TheVariants.{If}
use Rattle.rpl_forms.specs.declared.item.RplForm.{RplForm}
use Rattle.rpl_forms.specs.declared.item.RplForm.TheVariants.{Statement}
use Rattle.rpl_effects.specs.declared.effect.Effect.TheVariants.{Accepted, Rejected}
use Rattle.rpl_meaning.specs.declared.walk.Mode.TheVariants.{Running}
use Rattle.rpl_meaning.specs.declared.walk.Step.TheVariants.{Ended}
use Rattle.rpl_meaning.specs.Steps.{Does}
use Rattle.rpl_meaning.specs.Blocks.{word_in}
use Rattle.rpl_meaning.proofs.StepLaws.{alike, else_if_leaves, else_leaves, end_if_goes, pass_goes, done_ends, drop_ends}
use Rattle.rpl_meaning.proofs.walk.in_branch.Goals as goal

pub returns-in-If : goal.returns-in-If
returns-in-If c = subst (λ (f : RplForm). IfOk c.at_if.result (λ x. Does c.args.world.now (word_in c.args.words.now.entries) Running f c.args.run x)) (ap (λ (s : PolicyStatement). Statement s) (ap If c.as_slice.ensures ∙ sym c.in-If.is)) c.at_if.ensures

pub returns-in-ElseIf : goal.returns-in-ElseIf
returns-in-ElseIf c = alike c.args.world.now (word_in c.args.words.now.entries) Running (Statement c.args.statement.now) _ c.args.run c.on.result _ (ap (λ (s : PolicyStatement). Statement s) c.in-ElseIf.is) c.on.ensures (else_if_leaves c.args.world.now (word_in c.args.words.now.entries) _ c.args.run)

pub returns-in-Else : goal.returns-in-Else
returns-in-Else c = alike c.args.world.now (word_in c.args.words.now.entries) Running (Statement c.args.statement.now) _ c.args.run c.on-in-Else.result _ (ap (λ (s : PolicyStatement). Statement s) c.in-Else.is) c.on-in-Else.ensures (else_leaves c.args.world.now (word_in c.args.words.now.entries) c.args.run)

pub returns-in-EndIf : goal.returns-in-EndIf
returns-in-EndIf c = alike c.args.world.now (word_in c.args.words.now.entries) Running (Statement c.args.statement.now) _ c.args.run c.on-in-EndIf.result _ (ap (λ (s : PolicyStatement). Statement s) c.in-EndIf.is) c.on-in-EndIf.ensures (end_if_goes c.args.world.now (word_in c.args.words.now.entries) c.args.run)

pub returns-in-Pass : goal.returns-in-Pass
returns-in-Pass c = alike c.args.world.now (word_in c.args.words.now.entries) Running (Statement c.args.statement.now) _ c.args.run c.with_ticket.result _ (ap (λ (s : PolicyStatement). Statement s) c.in-Pass.is) c.with_ticket.ensures (pass_goes c.args.world.now (word_in c.args.words.now.entries) c.args.run)

pub returns-in-Done : goal.returns-in-Done
returns-in-Done c = alike c.args.world.now (word_in c.args.words.now.entries) Running (Statement c.args.statement.now) _ c.args.run (Ended (Accepted c.args.run.changes)) _ (ap (λ (s : PolicyStatement). Statement s) c.in-Done.is) refl (done_ends c.args.world.now (word_in c.args.words.now.entries) c.args.run)

pub returns-in-Drop : goal.returns-in-Drop
returns-in-Drop c = alike c.args.world.now (word_in c.args.words.now.entries) Running (Statement c.args.statement.now) _ c.args.run (Ended Rejected) _ (ap (λ (s : PolicyStatement). Statement s) c.in-Drop.is) refl (drop_ends c.args.world.now (word_in c.args.words.now.entries) c.args.run)

pub returns-in-Act : goal.returns-in-Act
returns-in-Act c = subst (λ (f : RplForm). IfOk c.at_action.result (λ x. Does c.args.world.now (word_in c.args.words.now.entries) Running f c.args.run x)) (ap (λ (s : PolicyStatement). Statement s) (sym c.in-Act.is)) c.at_action.ensures

pub returns : goal.returns
returns c = subst (λ (f : RplForm). Does c.args.world.now (word_in c.args.words.now.entries) Running f c.args.run c.calls.result) (ap (λ (s : PolicyStatement). Statement s) (sym c.in-Apply.is)) (c.calls.ensures c.args.world.now (word_in c.args.words.now.entries))
