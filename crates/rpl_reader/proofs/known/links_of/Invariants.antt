use Rattle.std.proofs.Common.{◌≡◌, ◌++◌, length}
use Rattle.policy_calls.specs.Callees.{links_of}
use Rattle.rpl_calls.specs.Calls.{links}
use Rattle.rpl_calls.specs.Said.{calls_in}
use Rattle.rpl_reader.proofs.known.links_of.Given as goal

abbrev pub invariant-loop-rest : goal.invariant-loop-rest
invariant-loop-rest l = links_of l.row ++ links (calls_in l.rest) ≡ links (calls_in l.calls)

abbrev pub decreases-loop-rest : goal.decreases-loop-rest
decreases-loop-rest l = length l.rest
