use Rattle.std.proofs.Common.{◌≡◌, ◌++◌, length}
use Rattle.policy_calls.specs.Callees.{nows}
use Rattle.junos_reader.specs.Statements.{testers_in}
use Rattle.junos_reader.specs.Known.{plain_statements}
use Rattle.junos_reader.proofs.statements.testers.Given as goal

abbrev pub invariant-loop-rest : goal.invariant-loop-rest
invariant-loop-rest l = nows l.testers ++ testers_in (plain_statements l.rest) ≡ testers_in (plain_statements l.statements)

abbrev pub decreases-loop-rest : goal.decreases-loop-rest
decreases-loop-rest l = length l.rest
