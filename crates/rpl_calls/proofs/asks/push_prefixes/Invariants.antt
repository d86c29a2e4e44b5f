use Rattle.std.proofs.Common.{◌≡◌, ◌++◌, length}
use Rattle.std.specs.List.{flat_map}
use Rattle.name_maps.specs.Under.{under}
use Rattle.rpl_calls.specs.Asks.{prefix_asks}
use Rattle.rpl_calls.proofs.asks.push_prefixes.Given as goal

abbrev pub invariant-loop-rest : goal.invariant-loop-rest
invariant-loop-rest l = l.asks ++ flat_map (prefix_asks (under l.places.entries)) l.rest ≡ l.fn.asks ++ flat_map (prefix_asks (under l.places.entries)) l.elements

abbrev pub decreases-loop-rest : goal.decreases-loop-rest
decreases-loop-rest l = length l.rest
