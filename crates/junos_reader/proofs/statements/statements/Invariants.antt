use Rattle.std.proofs.Common.{◌≡◌, ◌++◌, length}
use Rattle.std.specs.Prelude.{option_map}
use Rattle.junos_reader.specs.Statements.{statements_from, statements_of}
use Rattle.junos_reader.specs.Known.{plain_statements}
use Rattle.junos_reader.proofs.statements.statements.Given as goal

abbrev pub invariant-loop-rest : goal.invariant-loop-rest
invariant-loop-rest l = plain_statements l.statements ++ statements_from (option_map (λ n. n.now) l.policy) l.rest ≡ statements_of l.items

abbrev pub decreases-loop-rest : goal.decreases-loop-rest
decreases-loop-rest l = length l.rest
