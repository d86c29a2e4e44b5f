use Rattle.std.proofs.Common.{◌≡◌, ◌++◌, length}
use Rattle.path_suffixes.proofs.suffix.push_copies.Given as goal

abbrev pub invariant-loop-rest : goal.invariant-loop-rest
invariant-loop-rest l = l.items ++ l.rest ≡ l.initial.items ++ l.copied

abbrev pub decreases-loop-rest : goal.decreases-loop-rest
decreases-loop-rest l = length l.rest
