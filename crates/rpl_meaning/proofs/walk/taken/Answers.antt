use Rattle.std.proofs.Common.{sym, subst}
use Rattle.std.specs.Prelude.{IfOk}
use Rattle.std.proofs.lemmas.Result.{IfOk-weaker}
use Rattle.rpl_meaning.specs.declared.walk.Mode.{Mode}
use Rattle.rpl_meaning.specs.Blocks.{word_in}
use Rattle.rpl_meaning.specs.Steps.{Does}
use Rattle.rpl_meaning.proofs.walk.taken.Goals as goal

pub returns-in-Running : goal.returns-in-Running
returns-in-Running c = subst (λ (m : Mode). IfOk c.in_running.result (λ x. Does c.args.world.now (word_in c.args.words.now.entries) m c.args.form.now c.args.run x)) (sym c.in-Running.is) c.in_running.ensures

pub returns-in-Seeking : goal.returns-in-Seeking
returns-in-Seeking c = subst (λ (m : Mode). IfOk c.seeking.result (λ x. Does c.args.world.now (word_in c.args.words.now.entries) m c.args.form.now c.args.run x)) (sym c.in-Seeking.is) c.seeking.ensures

pub returns-in-Leaving : goal.returns-in-Leaving
returns-in-Leaving c =
    subst (λ (m : Mode). IfOk c.leaving.result (λ x. Does c.args.world.now (word_in c.args.words.now.entries) m c.args.form.now c.args.run x)) (sym c.in-Leaving.is)
    (IfOk-weaker c.leaving.result _ _ (λ x does. does c.args.world.now (word_in c.args.words.now.entries)) c.leaving.ensures)
