use Rattle.std.proofs.Common.{◌≡◌, ◌++◌, length}
use Rattle.ios_lower.proofs.atoms.copied_paths.Given as goal

abbrev pub invariant-loop-rest : goal.invariant-loop-rest
invariant-loop-rest l = l.copies ++ l.rest ≡ l.entries

abbrev pub decreases-loop-rest : goal.decreases-loop-rest
decreases-loop-rest l = length l.rest
