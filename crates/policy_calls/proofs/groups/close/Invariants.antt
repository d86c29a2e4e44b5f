use Rattle.std.proofs.Common.{length}
use Rattle.policy_calls.proofs.groups.close.Given as goal

abbrev pub decreases-loop-other : goal.decreases-loop-other
decreases-loop-other l = length l.walk.waiting.items
