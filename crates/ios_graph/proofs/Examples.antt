-- Worked examples of where a run goes on, which the checker computes.
use Rattle.std.proofs.Common.{◌≡◌, refl, List, [], ◌∷◌}
use Rattle.ios_graph.specs.Rows.{node_from}
use Rattle.ios_graph.specs.declared.rows.Target.{Target}

-- the entries 10, 20 and 30 have the nodes 7, 5 and 3; past them stands the node 1
abbrev targets : List Target
targets = record { number = 30; node = 3 } ∷ record { number = 20; node = 5 } ∷ record { number = 10; node = 7 } ∷ []

at_a_number : node_from 20 1 targets ≡ 5
at_a_number = refl

-- no entry has the number 15: the next one counts
between_numbers : node_from 15 1 targets ≡ 5
between_numbers = refl

-- without a number the first one counts
at_the_first : node_from 0 1 targets ≡ 7
at_the_first = refl

past_the_last : node_from 31 1 targets ≡ 1
past_the_last = refl
