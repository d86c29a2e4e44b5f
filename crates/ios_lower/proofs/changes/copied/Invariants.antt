use Rattle.std.proofs.Common.{length}
use Rattle.ios_lower.proofs.Copies.{Copied}
use Rattle.ios_lower.proofs.changes.copied.Given as goal

abbrev pub invariant-loop-rest : goal.invariant-loop-rest
invariant-loop-rest l = Copied l.communities l.rest l.copy

abbrev pub decreases-loop-rest : goal.decreases-loop-rest
decreases-loop-rest l = length l.rest
