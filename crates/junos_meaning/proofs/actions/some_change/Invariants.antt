use Rattle.std.proofs.Common.{◌≡◌, length}
use Rattle.std.specs.List.{list_any}
use Rattle.std.specs.Prelude.{map}
use Rattle.junos_reader.specs.Forms.{changes}
use Rattle.junos_meaning.proofs.actions.some_change.Given as goal

abbrev pub decreases-loop-rest : goal.decreases-loop-rest
decreases-loop-rest l = length l.rest

abbrev pub invariant-loop-rest : goal.invariant-loop-rest
invariant-loop-rest l = list_any changes (map (λ a. a.now) l.rest) ≡ list_any changes (map (λ a. a.now) l.actions)
