use Rattle.std.proofs.Common.{◌∙◌, sym}
use Rattle.path_classes.proofs.NumbersLaws.{whole_holds}
use Rattle.path_classes.proofs.lines.turn_of.Goals as goal

pub returns-clause-sound : goal.returns-clause-sound
returns-clause-sound c = λ whole n below. c.in_ok-of.ensures n ∙ whole_holds c.args.item.now.set n (sym c.is_whole.ensures ∙ whole) below
