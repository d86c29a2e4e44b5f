use Rattle.std.proofs.Common.{◌≡◌, length}
use Rattle.std.specs.List.{list_any}
use Rattle.std.specs.Prelude.{map}
use Rattle.junos_meaning.specs.Conditions.{is_of}
use Rattle.junos_meaning.proofs.conditions.some_are.Given as goal

abbrev pub decreases-loop-rest : goal.decreases-loop-rest
decreases-loop-rest l = length l.rest

abbrev pub invariant-loop-rest : goal.invariant-loop-rest
invariant-loop-rest l = list_any (is_of l.kind) (map (λ c. c.now) l.rest) ≡ list_any (is_of l.kind) (map (λ c. c.now) l.conditions)
