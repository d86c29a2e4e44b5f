use Rattle.step_search.proofs.Tables.{OnWay, left_of}
use Rattle.step_search.proofs.places.Places.push_places.Given as goal

abbrev pub invariant-loop-at : goal.invariant-loop-at
invariant-loop-at l = OnWay l.name l.fn.row l.row l.self l.at

abbrev pub decreases-loop-at : goal.decreases-loop-at
decreases-loop-at l = left_of l.at
