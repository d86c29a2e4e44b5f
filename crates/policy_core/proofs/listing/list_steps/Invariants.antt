use Rattle.std.proofs.Common.{◌≡◌, ◌++◌}
use Rattle.policy_core.specs.Steps.{steps_at}
use Rattle.policy_core.specs.Waiting.{coming, AllMayWait, work}
use Rattle.policy_core.proofs.listing.list_steps.Given as goal

abbrev pub invariant-loop-next : goal.invariant-loop-next
invariant-loop-next l = (l.found ++ coming l.core l.waiting ≡ steps_at l.core l.place) × AllMayWait l.core l.waiting

abbrev pub decreases-loop-next : goal.decreases-loop-next
decreases-loop-next l = work l.waiting
