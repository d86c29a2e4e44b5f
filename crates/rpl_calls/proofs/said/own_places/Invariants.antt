use Rattle.std.proofs.Common.{◌≡◌, ◌++◌, length}
use Rattle.std.specs.Prelude.{map}
use Rattle.name_maps.specs.Under.{under}
use Rattle.rpl_calls.specs.Calls.{own_place}
use Rattle.rpl_calls.proofs.said.own_places.Given as goal

abbrev pub invariant-loop-rest : goal.invariant-loop-rest
invariant-loop-rest l = l.row ++ map (own_place (under l.places.entries)) l.rest ≡ map (own_place (under l.places.entries)) l.arguments

abbrev pub decreases-loop-rest : goal.decreases-loop-rest
decreases-loop-rest l = length l.rest
