use Rattle.std.proofs.Common.{◌≡◌, length}
use Rattle.junos_plans.specs.Apart.{rise_from}
use Rattle.junos_plans.proofs.apart.rise_from.Given as goal

abbrev pub invariant-loop-rest : goal.invariant-loop-rest
invariant-loop-rest l = rise_from l.past l.rest ≡ rise_from l.fn.past l.blocks

abbrev pub decreases-loop-rest : goal.decreases-loop-rest
decreases-loop-rest l = length l.rest
