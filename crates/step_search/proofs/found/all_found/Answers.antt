use Rattle.std.proofs.Common.{arith}
use Rattle.step_search.proofs.Closed.{begun, whole}
use Rattle.step_search.proofs.found.all_found.Goals as goal

pub loop-place-init : goal.loop-place-init
loop-place-init g c = begun (g.S.Steps.next c.args.steps.now) c.args.start.now c.in_ok-found.found.keys c.add_all.new.found.keys c.in_ok-found.ensures.empty c.in_ok-add_all.ensures.kept c.in_ok-add_all.ensures.added

pub loop-place-preserved : goal.loop-place-preserved
loop-place-preserved g c = c.in_ok-add_next.ensures c.args.start.now c.loop-place.invariant

pub returns-clause-whole : goal.returns-clause-whole
returns-clause-whole g c = whole (g.S.Steps.next c.args.steps.now) c.args.start.now c.loop-place.found.keys c.loop-place.place c.loop-place.invariant (omega (arith, c.len.ensures.len, c.loop-place-test.false))
