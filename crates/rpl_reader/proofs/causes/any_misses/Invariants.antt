use Rattle.std.proofs.Common.{◌≡◌, length}
use Rattle.std.specs.List.{list_any}
use Rattle.rpl_facts.specs.Used.{uses_in}
use Rattle.rpl_reader.specs.Known.{known_facts, told}
use Rattle.rpl_reader.specs.Causes.{misses}
use Rattle.rpl_reader.proofs.causes.any_misses.Given as goal

abbrev pub invariant-loop-rest : goal.invariant-loop-rest
invariant-loop-rest l = list_any (misses (known_facts l.known) (told l.state)) (uses_in l.rest) ≡ list_any (misses (known_facts l.known) (told l.state)) (uses_in l.uses)

abbrev pub decreases-loop-rest : goal.decreases-loop-rest
decreases-loop-rest l = length l.rest
