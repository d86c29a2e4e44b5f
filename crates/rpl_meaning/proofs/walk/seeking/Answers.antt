use Rattle.std.proofs.Common.{ℕ, sym, subst, arith}
use Rattle.std.specs.Prelude.{IfOk}
use Rattle.rpl_meaning.specs.declared.walk.Mode.TheVariants.{Seeking}
use Rattle.rpl_meaning.specs.Blocks.{word_in}
use Rattle.rpl_meaning.specs.Steps.{Does}
use Rattle.rpl_meaning.proofs.StepLaws.{does_seeking_past}
use Rattle.rpl_meaning.proofs.walk.seeking.Goals as goal

pub returns-then-over-eq0 : goal.returns-then-over-eq0
returns-then-over-eq0 c = subst (λ (n : ℕ). IfOk c.in_seeking.result (λ x. Does c.args.world.now (word_in c.args.words.now.entries) (Seeking n) c.args.form.now c.args.run x)) (sym c.if-over-eq0.true) c.in_seeking.ensures

pub returns : goal.returns
returns c =
    does_seeking_past c.args.world.now (word_in c.args.words.now.entries) c.args.form.now c.args.over c.in_ok-behind.behind c.args.run c.passed.result c.word_of.result (omega arith) c.word_of.ensures c.in_ok-behind.ensures c.passed.ensures
