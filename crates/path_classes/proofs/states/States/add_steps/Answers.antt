use Rattle.path_classes.proofs.StateLaws.{way_begins, way_goes, way_ends}
use Rattle.path_classes.proofs.states.States.add_steps.Goals as goal

pub loop-rest-init : goal.loop-rest-init
loop-rest-init c = λ threads state. way_begins c.args.lines.now c.args.numbers.now c.new-row.result c.args.self.now threads c.new-row.ensures state.reached

pub loop-rest-preserved : goal.loop-rest-preserved
loop-rest-preserved c = λ threads state.
    way_goes c.args.lines.now c.args.numbers.now c.loop-rest.row c.push.new.self c.loop-rest.rest.now c.args.self.now c.loop-rest.self c.add_step.new.self threads c.args.from
    c.in_ok-add_step.field-0 c.in-len1-up.len_at_least state (c.loop-rest.invariant threads state) c.in_ok-add_step.ensures c.in_ok-push.ensures

pub returns : goal.returns
returns c = λ threads state.
    way_ends c.args.lines.now c.args.numbers.now c.loop-rest.row c.loop-rest.rest.now c.args.self.now c.loop-rest.self threads c.in_default.len_below (c.loop-rest.invariant threads state)
