-- the printed name is that of the kind
use Rattle.std.proofs.Common.{ℕ, List, subst}
use Rattle.std.specs.Prelude.{codes}
use Rattle.policy_program.specs.Answer.{place_line}
use Rattle.policy_program.specs.Ends.{Sinks, ReceivedLine}
use Rattle.policy_program.proofs.lines.tell_broken.Goals as goal

pub returns : goal.returns
returns g c =
    let s : Sinks = record { before = g.E.Sink.seen c.args.err.now; now = g.E.Sink.seen c.tell_fault.new.err } in
    subst (λ (name : List ℕ). ReceivedLine s (place_line c.args.file.now c.args.place (codes ": broken: ") name)) c.kind_name.ensures c.tell_fault.ensures
