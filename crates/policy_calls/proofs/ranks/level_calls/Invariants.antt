use Rattle.std.proofs.Common.{◌≡◌, ◌++◌, length}
use Rattle.policy_calls.specs.Ranks.{rank_at, level}
use Rattle.policy_calls.proofs.ranks.level_calls.Given as goal

abbrev pub invariant-loop-rest : goal.invariant-loop-rest
invariant-loop-rest l = l.row ++ level (rank_at l.ranks) l.rest ≡ level (rank_at l.ranks) l.calls

abbrev pub decreases-loop-rest : goal.decreases-loop-rest
decreases-loop-rest l = length l.rest
