-- the file's name and the printed number are those that were put
use Rattle.std.proofs.Common.{ℕ, List, [], ◌∷◌, subst, ◌∙◌}
use Rattle.std.specs.Prelude.{codes, decimal}
use Rattle.policy_outside.specs.Sink.{joined}
use Rattle.policy_program.specs.Ends.{Sinks, ReceivedLine}
use Rattle.policy_program.proofs.lines.tell_not_route.Goals as goal

-- the line with a number that is printed
abbrev line_with : List ℕ → List ℕ → List ℕ
line_with file digits = joined (file ∷ codes ":" ∷ digits ∷ codes ": not a route\n" ∷ [])

pub returns : goal.returns
returns g c =
    let s : Sinks = record { before = g.E.Sink.seen c.args.err.now; now = g.E.Sink.seen c.tell.new.err } in
    subst (λ (file : List ℕ). ReceivedLine s (line_with file (decimal c.args.number))) c.as_bytes.ensures.value
    (subst (λ (digits : List ℕ). ReceivedLine s (line_with c.as_bytes.result.now digits)) (c.as_bytes-2.ensures.value ∙ c.format-digits.ensures.text) c.tell.ensures)
