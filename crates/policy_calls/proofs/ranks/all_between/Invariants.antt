use Rattle.std.proofs.Common.{◌≡◌, length}
use Rattle.std.specs.List.{list_all}
use Rattle.policy_calls.specs.Callees.{links_of}
use Rattle.policy_calls.specs.Ranks.{are_between}
use Rattle.policy_calls.proofs.ranks.all_between.Given as goal

abbrev pub invariant-loop-rest : goal.invariant-loop-rest
invariant-loop-rest l = list_all (are_between l.callers l.callees) (links_of l.rest) ≡ list_all (are_between l.callers l.callees) (links_of l.calls)

abbrev pub decreases-loop-rest : goal.decreases-loop-rest
decreases-loop-rest l = length l.rest
