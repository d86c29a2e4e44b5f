use Rattle.rpl_words.specs.Tokens.{tokens}
use Rattle.rpl_forms.proofs.MarkSteps.{step_ok, step_not_ok}
use Rattle.rpl_forms.proofs.condition_words.take_at.Goals as goal

pub returns-then-not-may_stand-clause-kept : goal.returns-then-not-may_stand-clause-kept
returns-then-not-may_stand-clause-kept c = λ ts e.
    step_not_ok ts (tokens c.args.behind.now) c.args.mark c.args.reading.now.terms c.take.new.self.terms c.args.reading.now.standing c.args.reading.now.around c.take.new.self.standing c.take.new.self.around c.in_ok-may_stand.may_stand e
    c.in_ok-may_stand.ensures.value c.if-not-may_stand.true

pub returns-clause-kept : goal.returns-clause-kept
returns-clause-kept c = λ ts e.
    step_ok ts (tokens c.args.behind.now) c.args.mark c.args.reading.now.terms c.take.new.self.terms c.args.reading.now.standing c.args.reading.now.around c.take.new.self.standing c.take.new.self.around c.in_ok-may_stand.may_stand e
    c.in_ok-may_stand.ensures.value c.if-not-may_stand.false
