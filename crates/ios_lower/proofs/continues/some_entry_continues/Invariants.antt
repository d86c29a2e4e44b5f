use Rattle.std.proofs.Common.{◌≡◌, length}
use Rattle.ios_lower.specs.Continues.{has_continue}
use Rattle.ios_lower.proofs.continues.some_entry_continues.Given as goal

abbrev pub invariant-loop-rest : goal.invariant-loop-rest
invariant-loop-rest l = has_continue l.rest l.name ≡ has_continue l.items l.name

abbrev pub decreases-loop-rest : goal.decreases-loop-rest
decreases-loop-rest l = length l.rest
