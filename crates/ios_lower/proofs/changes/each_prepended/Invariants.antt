use Rattle.std.proofs.Common.{length}
use Rattle.ios_lower.proofs.Copies.{Prepended}
use Rattle.ios_lower.proofs.changes.each_prepended.Given as goal

abbrev pub invariant-loop-rest : goal.invariant-loop-rest
invariant-loop-rest l = Prepended l.numbers l.rest l.found.items

abbrev pub decreases-loop-rest : goal.decreases-loop-rest
decreases-loop-rest l = length l.rest
