use Rattle.std.proofs.Common.{◌≡◌, length}
use Rattle.std.specs.List.{list_all}
use Rattle.policy_calls.specs.Callees.{links_of}
use Rattle.policy_calls.specs.Ranks.{rank_at, falls}
use Rattle.policy_calls.proofs.ranks.all_fall.Given as goal

abbrev pub invariant-loop-rest : goal.invariant-loop-rest
invariant-loop-rest l = list_all (falls (rank_at l.ranks)) (links_of l.rest) ≡ list_all (falls (rank_at l.ranks)) (links_of l.calls)

abbrev pub decreases-loop-rest : goal.decreases-loop-rest
decreases-loop-rest l = length l.rest
