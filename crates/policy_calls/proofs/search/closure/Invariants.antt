use Rattle.std.proofs.Common.{◌-◌, ◌^◌}
use Rattle.policy_calls.specs.Callees.{nows}
use Rattle.policy_calls.specs.Search.{IsSearching}
use Rattle.policy_calls.proofs.search.closure.Given as goal

abbrev pub invariant-loop-next : goal.invariant-loop-next
invariant-loop-next l = IsSearching l.callees (nows l.names) l.order.items l.seen l.next

abbrev pub decreases-loop-next : goal.decreases-loop-next
decreases-loop-next l = 2 ^ 64 - l.next
