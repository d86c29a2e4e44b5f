use Rattle.std.proofs.Common.{◌≡◌, ◌++◌, length}
use Rattle.std.specs.Prelude.{map}
use Rattle.rpl_reader.proofs.possible.push_facts.Given as goal

abbrev pub invariant-loop-rest : goal.invariant-loop-rest
invariant-loop-rest l = l.row ++ map (λ f. record { argument = l.argument; fact = f }) l.rest ≡ l.fn.row ++ map (λ f. record { argument = l.argument; fact = f }) l.facts

abbrev pub decreases-loop-rest : goal.decreases-loop-rest
decreases-loop-rest l = length l.rest
