use Rattle.std.proofs.Common.{◌≡◌, ℕ, true, Some, slice_get}
use Rattle.rpl_effects.proofs.steps.none_seen.Given as goal

abbrev pub decreases-loop-left : goal.decreases-loop-left
decreases-loop-left l = l.left

abbrev pub invariant-loop-left : goal.invariant-loop-left
invariant-loop-left l = (k : ℕ) → slice_get l.seen.items k ≡ Some true → ⊥
