use Rattle.std.proofs.Common.{◌≡◌, ◌++◌, ◌+◌, length}
use Rattle.rpl_calls.specs.Listed.{handings_in}
use Rattle.rpl_reader.specs.Givens.{first_givens}
use Rattle.rpl_reader.specs.Known.{known_facts, known_policy}
use Rattle.rpl_reader.proofs.possible.first_givens.Given as goal

abbrev pub invariant-loop-rest : goal.invariant-loop-rest
invariant-loop-rest l = record {
  told : l.row ++ first_givens (known_facts l.known) (known_policy l.known) l.place (handings_in l.rest) ≡ first_givens (known_facts l.known) (known_policy l.known) 0 (handings_in l.arguments);
  small : l.place + length l.rest ≡ length l.arguments;
}

abbrev pub decreases-loop-rest : goal.decreases-loop-rest
decreases-loop-rest l = length l.rest
