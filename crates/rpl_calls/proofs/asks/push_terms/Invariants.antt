use Rattle.std.proofs.Common.{◌≡◌, ◌++◌, length}
use Rattle.std.specs.List.{flat_map}
use Rattle.name_maps.specs.Under.{under}
use Rattle.rpl_calls.specs.Asks.{term_asks}
use Rattle.rpl_calls.proofs.asks.push_terms.Given as goal

abbrev pub invariant-loop-rest : goal.invariant-loop-rest
invariant-loop-rest l = l.asks ++ flat_map (term_asks (under l.places.entries)) l.rest ≡ l.fn.asks ++ flat_map (term_asks (under l.places.entries)) l.terms

abbrev pub decreases-loop-rest : goal.decreases-loop-rest
decreases-loop-rest l = length l.rest
