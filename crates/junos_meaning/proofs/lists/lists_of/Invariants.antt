use Rattle.std.proofs.Common.{length}
use Rattle.junos_meaning.specs.Maps.{GoesAnswers}
use Rattle.junos_meaning.proofs.lists.lists_of.Given as goal

abbrev pub decreases-loop-rest : goal.decreases-loop-rest
decreases-loop-rest l = length l.rest

abbrev pub invariant-loop-rest : goal.invariant-loop-rest
invariant-loop-rest l = GoesAnswers l.prefix l.lists.entries l.rest l.items
