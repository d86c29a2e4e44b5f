use Rattle.std.proofs.Common.{◌≡◌, ◌++◌, length, map}
use Rattle.junos_policies.specs.Names.{writing}
use Rattle.junos_policies.proofs.names.Names.paths.Given as goal

abbrev pub invariant-loop-rest : goal.invariant-loop-rest
invariant-loop-rest l = l.words ++ map (writing l.fn.self).path l.rest ≡ map (writing l.fn.self).path l.texts

abbrev pub decreases-loop-rest : goal.decreases-loop-rest
decreases-loop-rest l = length l.rest
