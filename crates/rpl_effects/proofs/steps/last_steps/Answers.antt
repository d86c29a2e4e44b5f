use Rattle.rpl_effects.proofs.AnswerLaws.{all_visited}
use Rattle.rpl_effects.proofs.steps.last_steps.Goals as goal

pub returns : goal.returns
returns g c = λ answer.
    all_visited answer c.args.older.now c.args.changes.now.steps c.as_slice.result.now c.in_ok-seen.seen.items c.deref_mut.result.now c.visit_all.new.seen c.new-found.result.items c.visit_all.new.found.items c.reverse.new.self.items
    c.new-found.ensures.items c.as_slice.ensures c.deref_mut.ensures.value c.in_ok-seen.ensures (c.in_ok-visit_all.ensures answer) c.reverse.ensures.items
