use Rattle.std.proofs.Common.{◌≡◌, length}
use Rattle.aspath_text.specs.IosRead.{pieces_end}
use Rattle.aspath_text.proofs.ios_read.ends.Given as goal

abbrev pub invariant-loop-rest : goal.invariant-loop-rest
invariant-loop-rest l = pieces_end l.rest l.right ≡ pieces_end l.pieces l.right

abbrev pub decreases-loop-rest : goal.decreases-loop-rest
decreases-loop-rest l = length l.rest
