use Rattle.std.proofs.Common.{◌≡◌, length}
use Rattle.std.specs.Prelude.{None}
use Rattle.rpl_reader.specs.Known.{known_facts, known_policy}
use Rattle.rpl_reader.specs.Possible.{known_may}
use Rattle.rpl_reader.specs.Faults.{given_fault, earliest_of}
use Rattle.rpl_reader.proofs.given.earliest_given.Given as goal

abbrev pub invariant-loop-rest : goal.invariant-loop-rest
invariant-loop-rest l =
    earliest_of (given_fault (known_facts l.known) (known_policy l.known) (known_may l.possible) l.arguments) l.found l.rest ≡ earliest_of (given_fault (known_facts l.known) (known_policy l.known) (known_may l.possible) l.arguments) None l.demands

abbrev pub decreases-loop-rest : goal.decreases-loop-rest
decreases-loop-rest l = length l.rest
