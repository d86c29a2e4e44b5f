use Rattle.std.proofs.Common.{◌≡◌, length}
use Rattle.std.specs.List.{list_any}
use Rattle.std.specs.Prelude.{map}
use Rattle.junos_reader.specs.Statements.{is_calling_condition}
use Rattle.junos_meaning.proofs.subroutines.some_calls.Given as goal

abbrev pub decreases-loop-rest : goal.decreases-loop-rest
decreases-loop-rest l = length l.rest

abbrev pub invariant-loop-rest : goal.invariant-loop-rest
invariant-loop-rest l = list_any is_calling_condition (map (λ c. c.now) l.rest) ≡ list_any is_calling_condition (map (λ c. c.now) l.conditions)
