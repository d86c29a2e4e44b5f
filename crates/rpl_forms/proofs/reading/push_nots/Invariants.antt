use Rattle.std.proofs.Common.{◌≡◌, ◌++◌}
use Rattle.rpl_forms.specs.Terms.{repeated_not}
use Rattle.rpl_forms.proofs.reading.push_nots.Given as goal

abbrev pub invariant-loop-left : goal.invariant-loop-left
invariant-loop-left l = l.terms ++ repeated_not l.left ≡ l.initial.terms ++ repeated_not l.count

abbrev pub decreases-loop-left : goal.decreases-loop-left
decreases-loop-left l = l.left
