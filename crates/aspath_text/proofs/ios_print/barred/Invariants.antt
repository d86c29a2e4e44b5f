use Rattle.std.proofs.Common.{length}
use Rattle.aspath_text.proofs.Written.{IsWrittenBefore}
use Rattle.aspath_text.proofs.ios_print.barred.Given as goal

abbrev pub invariant-loop-rest : goal.invariant-loop-rest
invariant-loop-rest l = IsWrittenBefore l.out.items l.rest l.branches

abbrev pub decreases-loop-rest : goal.decreases-loop-rest
decreases-loop-rest l = length l.rest
