use Rattle.std.proofs.Common.{◌≡◌, ◌+◌, length}
use Rattle.name_maps.specs.Under.{under}
use Rattle.rpl_calls.proofs.Placed.{ArePlaced}
use Rattle.rpl_calls.proofs.policies.places_of.Given as goal

abbrev pub invariant-loop-rest : goal.invariant-loop-rest
invariant-loop-rest l = record { told : ArePlaced (under l.places.entries) l.place l.rest l.names; small : l.place + length l.rest ≡ length l.names }

abbrev pub decreases-loop-rest : goal.decreases-loop-rest
decreases-loop-rest l = length l.rest
