use Rattle.std.proofs.Common.{◌≡◌}
use Rattle.rpl_calls.specs.Table.{parameter_parts}
use Rattle.rpl_reader.specs.Possible.{known_may}
use Rattle.rpl_reader.specs.Faults.{any_above}
use Rattle.rpl_reader.proofs.given.any_above.Given as goal

abbrev pub invariant-loop-number : goal.invariant-loop-number
invariant-loop-number l = any_above (known_may l.possible) (parameter_parts l.parameter) l.value l.number ≡ any_above (known_may l.possible) (parameter_parts l.parameter) l.value 33

abbrev pub decreases-loop-number : goal.decreases-loop-number
decreases-loop-number l = l.number
