use Rattle.std.proofs.Common.{length}
use Rattle.ios_lower.proofs.AtomWalks.{ListsMade}
use Rattle.ios_lower.proofs.atoms.path_lists.Given as goal

abbrev pub invariant-loop-rest : goal.invariant-loop-rest
invariant-loop-rest l = ListsMade l.lists.items.now l.line.lists l.rest l.found

abbrev pub decreases-loop-rest : goal.decreases-loop-rest
decreases-loop-rest l = length l.rest
