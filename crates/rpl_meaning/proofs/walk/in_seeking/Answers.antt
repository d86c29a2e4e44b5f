use Rattle.std.proofs.Common.{sym, subst}
use Rattle.std.specs.Prelude.{IfOk}
use Rattle.rpl_forms.specs.declared.item.RplForm.{RplForm}
use Rattle.rpl_meaning.specs.declared.walk.Mode.TheVariants.{Seeking}
use Rattle.rpl_meaning.specs.Steps.{Does}
use Rattle.rpl_meaning.specs.Blocks.{word_in}
use Rattle.rpl_meaning.proofs.StepLaws.{is_else_if, does_seeking}
use Rattle.rpl_meaning.proofs.walk.in_seeking.Goals as goal

pub returns-in-Some : goal.returns-in-Some
returns-in-Some c = subst (λ (f : RplForm). IfOk c.at_else_if.result (λ x. Does c.args.world.now (word_in c.args.words.now.entries) (Seeking 0) f c.args.run x)) (sym (is_else_if c.args.form.now _ (sym c.in-Some.ensures))) c.at_else_if.ensures

pub returns-in-None : goal.returns-in-None
returns-in-None c = does_seeking c.args.world.now (word_in c.args.words.now.entries) c.args.form.now c.args.run c.passed.result c.branch_behind.result c.word_of.result c.in-None.ensures c.word_of.ensures c.branch_behind.ensures c.passed.ensures
