use Rattle.std.proofs.Common.{refl}
use Rattle.path_classes.proofs.StateLaws.{explored_more}
use Rattle.path_classes.proofs.states.States.add_row.Goals as goal

pub returns : goal.returns
returns c = λ sound before below.
    explored_more c.args.lines.now c.args.numbers.now c.args.self.now c.add_steps.new.self _ c.args.from c.in_ok-row.row sound c.in_ok-row.ensures refl refl c.in_ok-push.ensures before below
