use Rattle.std.proofs.Common.{◌≡◌, ◌++◌, length, map}
use Rattle.junos_layout.specs.Actions.{member_alone}
use Rattle.junos_policies.proofs.changes.members_alone.Given as goal

abbrev pub invariant-loop-rest : goal.invariant-loop-rest
invariant-loop-rest l = l.rects ++ map member_alone l.rest ≡ map member_alone l.communities

abbrev pub decreases-loop-rest : goal.decreases-loop-rest
decreases-loop-rest l = length l.rest
