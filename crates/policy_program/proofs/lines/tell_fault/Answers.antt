-- the printed place and the name are those of the fault
use Rattle.std.proofs.Common.{◌≡◌, ℕ, List, [], ◌∷◌, subst, ◌∙◌}
use Rattle.std.specs.Prelude.{codes, decimal}
use Rattle.policy_outside.specs.Sink.{joined}
use Rattle.policy_program.specs.Ends.{Sinks, ReceivedLine}
use Rattle.policy_program.proofs.lines.tell_fault.Goals as goal

-- the line of these parts
abbrev line_of : List ℕ → List ℕ → List ℕ → List ℕ → List ℕ → List ℕ
line_of file line column sort name = joined (file ∷ codes ":" ∷ line ∷ codes ":" ∷ column ∷ sort ∷ name ∷ codes "\n" ∷ [])

-- a line of equal parts
same_parts : (s : Sinks) (sort f file l line k column n name : List ℕ) → f ≡ file → l ≡ line → k ≡ column → n ≡ name → ReceivedLine s (line_of f l k sort n) → ReceivedLine s (line_of file line column sort name)
same_parts s sort f file l line k column n name a b d e told =
    subst (λ (x : List ℕ). ReceivedLine s (line_of file line column sort x)) e
    (subst (λ (x : List ℕ). ReceivedLine s (line_of file line x sort n)) d
    (subst (λ (x : List ℕ). ReceivedLine s (line_of file x k sort n)) b
    (subst (λ (x : List ℕ). ReceivedLine s (line_of x l k sort n)) a told)))

pub returns : goal.returns
returns g c =
    same_parts (record { before = g.E.Sink.seen c.args.err.now; now = g.E.Sink.seen c.tell_parts.new.err }) c.args.sort.now
    c.as_bytes.result.now c.args.file.now
    c.as_bytes-2.result.now (decimal c.args.place.line)
    c.as_bytes-3.result.now (decimal c.args.place.column)
    c.as_bytes-4.result.now c.args.name.now
    c.as_bytes.ensures.value
    (c.as_bytes-2.ensures.value ∙ c.format-line.ensures.text)
    (c.as_bytes-3.ensures.value ∙ c.format-column.ensures.text)
    c.as_bytes-4.ensures.value
    c.tell_parts.ensures
