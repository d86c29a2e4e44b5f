use Rattle.std.proofs.Common.{ℕ, sym, subst, arith}
use Rattle.rpl_meaning.specs.declared.walk.Mode.TheVariants.{Leaving}
use Rattle.rpl_meaning.specs.Steps.{Does}
use Rattle.rpl_meaning.proofs.StepLaws.{does_leaving, does_leaving_past}
use Rattle.rpl_meaning.proofs.walk.leaving.Goals as goal

pub returns-then-over-eq0 : goal.returns-then-over-eq0
returns-then-over-eq0 c = λ w bs.
    subst (λ (n : ℕ). Does w bs (Leaving n) c.args.form.now c.args.run c.passed.result) (sym c.if-over-eq0.true)
    (does_leaving w bs c.args.form.now c.args.run c.passed.result c.end_behind.result c.word_of.result c.word_of.ensures c.end_behind.ensures c.passed.ensures)

pub returns : goal.returns
returns c = λ w bs.
    does_leaving_past w bs c.args.form.now c.args.over c.in_ok-behind.behind c.args.run c.passed-2.result c.word_of-2.result (omega arith) c.word_of-2.ensures c.in_ok-behind.ensures c.passed-2.ensures
