use Rattle.std.proofs.Common.{◌≡◌, ◌-◌, ◌≤◌, ℕ, List}
use Rattle.policy_calls.specs.Depth.{is_at}
use Rattle.policy_calls.specs.Callees.{nows, links_of}
use Rattle.policy_calls.specs.Search.{AreSame, among}
use Rattle.policy_calls.proofs.depth.deepest.Given as goal

abbrev pub invariant-loop-depth : goal.invariant-loop-depth
invariant-loop-depth l = record {
  same : AreSame l.level.seen l.level.order.items;
  at : (q : List ℕ) → among (nows l.level.order.items) q ≡ is_at (links_of l.calls) (nows l.names) l.depth q;
  within : l.depth ≤ 128;
}

abbrev pub decreases-loop-depth : goal.decreases-loop-depth
decreases-loop-depth l = 128 - l.depth
