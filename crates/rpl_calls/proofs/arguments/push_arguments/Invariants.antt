use Rattle.std.proofs.Common.{◌≡◌, ◌++◌, ◌+◌, length}
use Rattle.rpl_calls.specs.Arguments.{arguments_from, arguments_in}
use Rattle.rpl_calls.specs.Listed.{handings_in}
use Rattle.rpl_calls.specs.Said.{call_parts}
use Rattle.rpl_calls.proofs.arguments.push_arguments.Given as goal

abbrev pub invariant-loop-rest : goal.invariant-loop-rest
invariant-loop-rest l = record {
  told : handings_in l.row ++ arguments_from (call_parts l.call) l.place l.rest ≡ handings_in l.fn.row ++ arguments_in (call_parts l.call);
  small : l.place + length l.rest ≡ length l.call.apply.now.arguments;
}

abbrev pub decreases-loop-rest : goal.decreases-loop-rest
decreases-loop-rest l = length l.rest
