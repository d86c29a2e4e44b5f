use Rattle.std.proofs.Common.{◌≡◌, ◌++◌, length}
use Rattle.std.specs.Prelude.{None}
use Rattle.rpl_calls.specs.Policies.{spoken_from}
use Rattle.rpl_facts.specs.Spoken.{spoken_in, line_in}
use Rattle.rpl_facts.proofs.spoken.statements_of.Given as goal

abbrev pub invariant-loop-rest : goal.invariant-loop-rest
invariant-loop-rest l = spoken_in l.row ++ spoken_from (line_in l.line) l.rest ≡ spoken_from None l.items

abbrev pub decreases-loop-rest : goal.decreases-loop-rest
decreases-loop-rest l = length l.rest
