use Rattle.std.proofs.Common.{◌≡◌, ◌++◌, length, map}
use Rattle.community_branches.specs.Asked.{point}
use Rattle.community_branches.proofs.tests.points.Given as goal

abbrev pub invariant-loop-rest : goal.invariant-loop-rest
invariant-loop-rest l = l.points.items ++ map point l.rest ≡ map point l.members

abbrev pub decreases-loop-rest : goal.decreases-loop-rest
decreases-loop-rest l = length l.rest
