use Rattle.std.proofs.Common.{◌≡◌, length}
use Rattle.junos_policies.specs.Noting.{noted_all}
use Rattle.junos_policies.proofs.sets.note_all.Given as goal

abbrev pub invariant-loop-rest : goal.invariant-loop-rest
invariant-loop-rest g l = noted_all g.T.PartialEq.eq l.set.keys l.rest ≡ noted_all g.T.PartialEq.eq l.fn.set.keys l.values

abbrev pub decreases-loop-rest : goal.decreases-loop-rest
decreases-loop-rest g l = length l.rest
