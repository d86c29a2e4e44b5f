use Rattle.std.proofs.Common.{◌≡◌, ◌++◌, List, length}
use Rattle.policy_calls.specs.Callees.{links_of}
use Rattle.policy_calls.specs.Calls.{Link}
use Rattle.junos_reader.specs.Statements.{links_to}
use Rattle.junos_reader.proofs.statements.push_calls.Given as goal

abbrev pub invariant-loop-rest : goal.invariant-loop-rest
invariant-loop-rest l = (behind : List Link) → (links_of l.calls ++ links_to l.caller l.rest behind) ≡ (links_of l.initial.calls ++ links_to l.caller l.callees behind)

abbrev pub decreases-loop-rest : goal.decreases-loop-rest
decreases-loop-rest l = length l.rest
