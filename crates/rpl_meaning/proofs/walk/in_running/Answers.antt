use Rattle.std.proofs.Common.{sym, subst}
use Rattle.std.specs.Prelude.{IfOk}
use Rattle.rpl_forms.specs.declared.item.RplForm.{RplForm}
use Rattle.rpl_meaning.specs.declared.walk.Mode.TheVariants.{Running}
use Rattle.rpl_meaning.specs.Steps.{Does}
use Rattle.rpl_meaning.specs.Blocks.{word_in}
use Rattle.rpl_meaning.proofs.StepLaws.{statement_is, does_running}
use Rattle.rpl_meaning.proofs.walk.in_running.Goals as goal

pub returns-in-Some : goal.returns-in-Some
returns-in-Some c = subst (λ (f : RplForm). IfOk c.in_branch.result (λ x. Does c.args.world.now (word_in c.args.words.now.entries) Running f c.args.run x)) (sym (statement_is c.args.form.now _ (sym c.in-Some.ensures))) c.in_branch.ensures

pub returns-in-None : goal.returns-in-None
returns-in-None c = does_running c.args.world.now (word_in c.args.words.now.entries) c.args.form.now c.args.run c.passed.result c.run_behind.result c.word_of.result c.in-None.ensures c.word_of.ensures c.run_behind.ensures c.passed.ensures
