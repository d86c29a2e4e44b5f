use Rattle.std.proofs.Common.{◌≡◌, ◌++◌, length, map}
use Rattle.rpl_layout.specs.Statements.{rect_alone}
use Rattle.rpl_policies.proofs.changes.rects_alone.Given as goal

abbrev pub invariant-loop-rest : goal.invariant-loop-rest
invariant-loop-rest l = l.rects ++ map rect_alone l.rest ≡ map rect_alone l.communities

abbrev pub decreases-loop-rest : goal.decreases-loop-rest
decreases-loop-rest l = length l.rest
