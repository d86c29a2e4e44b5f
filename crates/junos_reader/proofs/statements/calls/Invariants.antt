use Rattle.std.proofs.Common.{◌≡◌, ◌++◌, length}
use Rattle.policy_calls.specs.Callees.{links_of}
use Rattle.junos_reader.specs.Statements.{links_in}
use Rattle.junos_reader.specs.Known.{plain_statements}
use Rattle.junos_reader.proofs.statements.calls.Given as goal

abbrev pub invariant-loop-rest : goal.invariant-loop-rest
invariant-loop-rest l = links_of l.calls ++ links_in (plain_statements l.rest) ≡ links_in (plain_statements l.statements)

abbrev pub decreases-loop-rest : goal.decreases-loop-rest
decreases-loop-rest l = length l.rest
