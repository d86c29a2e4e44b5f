use Rattle.std.proofs.Common.{◌≡◌, ◌<◌, length, map}
use Rattle.policy_core.specs.Settled.{IsUntested}
use Rattle.policy_core.specs.Steps.{listed_at}
use Rattle.policy_core.proofs.ListedLaws.{doing}
use Rattle.policy_core.proofs.listing.one_step.Given as goal

abbrev pub invariant-loop-change : goal.invariant-loop-change
invariant-loop-change l =
    (l.at < length l.core) × IsUntested l.core l.at × (map (doing l.actions) (listed_at l.core l.at).alone ≡ (listed_at l.core l.place).alone) × (l.guard ≡ l.fn.guard)

abbrev pub decreases-loop-change : goal.decreases-loop-change
decreases-loop-change l = l.at
