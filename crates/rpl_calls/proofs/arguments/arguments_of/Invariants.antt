use Rattle.std.proofs.Common.{◌≡◌, ◌++◌, length}
use Rattle.rpl_calls.specs.Arguments.{arguments_of}
use Rattle.rpl_calls.specs.Listed.{handings_in}
use Rattle.rpl_calls.specs.Said.{calls_in}
use Rattle.rpl_calls.proofs.arguments.arguments_of.Given as goal

abbrev pub invariant-loop-rest : goal.invariant-loop-rest
invariant-loop-rest l = handings_in l.row ++ arguments_of (calls_in l.rest) ≡ arguments_of (calls_in l.calls)

abbrev pub decreases-loop-rest : goal.decreases-loop-rest
decreases-loop-rest l = length l.rest
