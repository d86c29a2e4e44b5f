use Rattle.std.proofs.Common.{length}
use Rattle.policy_calls.specs.Callees.{nows}
use Rattle.policy_calls.specs.Search.{IsNoting}
use Rattle.policy_calls.proofs.search.note_all.Given as goal

abbrev pub invariant-loop-rest : goal.invariant-loop-rest
invariant-loop-rest l = IsNoting l.initial.order.items (nows l.names) (nows l.rest) l.order.items l.seen

abbrev pub decreases-loop-rest : goal.decreases-loop-rest
decreases-loop-rest l = length l.rest
