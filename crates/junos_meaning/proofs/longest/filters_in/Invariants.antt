use Rattle.std.proofs.Common.{◌≡◌, ◌++◌, length}
use Rattle.std.specs.Prelude.{map}
use Rattle.junos_meaning.specs.Conditions.{filters_in}
use Rattle.junos_meaning.proofs.longest.filters_in.Given as goal

abbrev pub decreases-loop-rest : goal.decreases-loop-rest
decreases-loop-rest l = length l.rest

abbrev pub invariant-loop-rest : goal.invariant-loop-rest
invariant-loop-rest l = l.found.items ++ filters_in (map (λ c. c.now) l.rest) ≡ filters_in (map (λ c. c.now) l.conditions)
