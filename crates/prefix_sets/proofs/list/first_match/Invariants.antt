use Rattle.std.proofs.Common.{◌≡◌, length}
use Rattle.prefix_sets.specs.FirstMatch.{first_match}
use Rattle.prefix_sets.proofs.list.first_match.Given as goal

abbrev pub invariant-loop-rest : goal.invariant-loop-rest
invariant-loop-rest l = first_match l.rest l.prefix ≡ first_match l.entries l.prefix

abbrev pub decreases-loop-rest : goal.decreases-loop-rest
decreases-loop-rest l = length l.rest
