use Rattle.std.proofs.Common.{◌≡◌, ◌++◌, length}
use Rattle.community_branches.specs.Asked.{one_each}
use Rattle.community_branches.proofs.asked.one_each.Given as goal

abbrev pub invariant-loop-rest : goal.invariant-loop-rest
invariant-loop-rest l = l.entries ++ one_each l.rest ≡ one_each l.rects

abbrev pub decreases-loop-rest : goal.decreases-loop-rest
decreases-loop-rest l = length l.rest
