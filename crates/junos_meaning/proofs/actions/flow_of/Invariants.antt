use Rattle.std.proofs.Common.{◌≡◌, length}
use Rattle.std.specs.Prelude.{map}
use Rattle.junos_meaning.specs.Meaning.{flow_of}
use Rattle.junos_meaning.proofs.actions.flow_of.Given as goal

abbrev pub decreases-loop-rest : goal.decreases-loop-rest
decreases-loop-rest l = length l.rest

abbrev pub invariant-loop-rest : goal.invariant-loop-rest
invariant-loop-rest l = flow_of (map (λ a. a.now) l.rest) ≡ flow_of (map (λ a. a.now) l.actions)
