use Rattle.std.proofs.Common.{◌∙◌}
use Rattle.std.proofs.lemmas.Option.{same_Some}
use Rattle.std.proofs.lemmas.Result.{IfOk-weaker}
use Rattle.path_classes.proofs.StateLaws.{step_added}
use Rattle.path_classes.proofs.states.States.add_step.Goals as goal

pub returns : goal.returns
returns c = IfOk-weaker c.put.result _ _
    (λ to put threads state.
    let same = c.as_slice.ensures ∙ same_Some c.in-Some.threads.now threads (c.in-Some.ensures.key ∙ state.there) in
    step_added c.args.lines.now c.args.self.now c.put.new.self threads c.in_ok-led.led c.args.from c.args.number to c.ranges.number.fits state
    (rw (← same) (c.in_ok-led.ensures state.sound)) put)
    c.put.ensures
