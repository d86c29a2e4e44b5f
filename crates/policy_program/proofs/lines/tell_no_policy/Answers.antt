-- the name of the file is the one that was put
use Rattle.std.proofs.Common.{ℕ, List, subst}
use Rattle.policy_program.specs.Ends.{ReceivedLine}
use Rattle.policy_program.specs.Answer.{HasNoPolicy, line_told}
use Rattle.policy_program.proofs.lines.tell_no_policy.Goals as goal

pub returns : goal.returns
returns g c =
    subst (λ (file : List ℕ). ReceivedLine (record { before = g.E.Sink.seen c.args.err.now; now = g.E.Sink.seen c.tell.new.err }) (line_told file (HasNoPolicy c.args.policy.now)))
    c.as_bytes.ensures.value c.tell.ensures
