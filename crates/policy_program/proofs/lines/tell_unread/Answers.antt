-- the file's name is the one that was put
use Rattle.std.proofs.Common.{ℕ, List, subst}
use Rattle.policy_program.specs.Ends.{ReceivedLine}
use Rattle.policy_program.specs.Answer.{CannotRead, line_told}
use Rattle.policy_program.proofs.lines.tell_unread.Goals as goal

pub returns : goal.returns
returns g c = subst (λ (file : List ℕ). ReceivedLine (record { before = g.E.Sink.seen c.args.err.now; now = g.E.Sink.seen c.tell.new.err }) (line_told file CannotRead)) c.as_bytes.ensures.value c.tell.ensures
