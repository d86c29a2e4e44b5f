use Rattle.std.proofs.Common.{◌≡◌, reverse}
use Rattle.rpl_effects.specs.Changes.{repeated_before}
use Rattle.rpl_effects.proofs.draft.push_times.Given as goal

abbrev pub decreases-loop-left : goal.decreases-loop-left
decreases-loop-left l = l.left

abbrev pub invariant-loop-left : goal.invariant-loop-left
invariant-loop-left l = repeated_before l.number l.left (reverse l.path.items) ≡ repeated_before l.number l.count (reverse l.fn.path.items)
