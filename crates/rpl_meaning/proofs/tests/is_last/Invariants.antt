use Rattle.std.proofs.Common.{◌≡◌, length}
use Rattle.rpl_meaning.specs.Conditions.{is_last}
use Rattle.rpl_meaning.proofs.tests.is_last.Given as goal

abbrev pub decreases-loop-rest : goal.decreases-loop-rest
decreases-loop-rest l = length l.rest

abbrev pub invariant-loop-rest : goal.invariant-loop-rest
invariant-loop-rest l = is_last l.number l.rest ≡ is_last l.number l.path
