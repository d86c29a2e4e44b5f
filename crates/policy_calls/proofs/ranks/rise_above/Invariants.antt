use Rattle.std.proofs.Common.{◌≡◌, length}
use Rattle.policy_calls.specs.Callees.{nows}
use Rattle.policy_calls.specs.Ranks.{rank_at, rise_above}
use Rattle.policy_calls.proofs.ranks.rise_above.Given as goal

abbrev pub invariant-loop-rest : goal.invariant-loop-rest
invariant-loop-rest l = rise_above (rank_at l.ranks) l.last (nows l.rest) ≡ rise_above (rank_at l.ranks) l.least (nows l.names)

abbrev pub decreases-loop-rest : goal.decreases-loop-rest
decreases-loop-rest l = length l.rest
