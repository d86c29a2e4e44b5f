use Rattle.std.proofs.Common.{◌≡◌, ◌++◌, length, map}
use Rattle.junos_policies.specs.Names.{writing}
use Rattle.junos_policies.proofs.names.Names.communities.Given as goal

abbrev pub invariant-loop-rest : goal.invariant-loop-rest
invariant-loop-rest l = l.words ++ map (writing l.fn.self).community l.rest ≡ map (writing l.fn.self).community l.sets

abbrev pub decreases-loop-rest : goal.decreases-loop-rest
decreases-loop-rest l = length l.rest
