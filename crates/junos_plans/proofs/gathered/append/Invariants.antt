use Rattle.std.proofs.Common.{◌≡◌, ◌++◌, length}
use Rattle.junos_plans.proofs.gathered.append.Given as goal

abbrev pub invariant-loop-rest : goal.invariant-loop-rest
invariant-loop-rest g l = l.values ++ l.rest ≡ l.fn.values ++ l.more

abbrev pub decreases-loop-rest : goal.decreases-loop-rest
decreases-loop-rest g l = length l.rest
