use Rattle.std.proofs.Common.{◌≡◌, ◌++◌, length}
use Rattle.rpl_calls.specs.Linked.{starting_demands}
use Rattle.rpl_calls.specs.Said.{asks_in}
use Rattle.rpl_calls.proofs.demand.starting_demands.Given as goal

abbrev pub invariant-loop-rest : goal.invariant-loop-rest
invariant-loop-rest l = l.row ++ starting_demands l.arguments (asks_in l.rest) ≡ starting_demands l.arguments (asks_in l.asks)

abbrev pub decreases-loop-rest : goal.decreases-loop-rest
decreases-loop-rest l = length l.rest
