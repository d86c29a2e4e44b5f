use Rattle.std.proofs.Common.{◌≡◌, ◌++◌, length}
use Rattle.policy_request.specs.Languages.{texts_of}
use Rattle.policy_sources.proofs.loads.rows_of.Given as goal

abbrev pub invariant-loop-rest : goal.invariant-loop-rest
invariant-loop-rest l = l.rows ++ texts_of l.rest ≡ texts_of l.names

abbrev pub decreases-loop-rest : goal.decreases-loop-rest
decreases-loop-rest l = length l.rest
