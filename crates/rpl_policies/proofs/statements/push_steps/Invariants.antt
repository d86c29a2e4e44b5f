use Rattle.std.proofs.Common.{◌≡◌, ◌++◌, length}
use Rattle.rpl_layout.specs.Statements.{steps_forms}
use Rattle.rpl_policies.specs.Names.{writing}
use Rattle.rpl_policies.proofs.statements.push_steps.Given as goal

abbrev pub invariant-loop-rest : goal.invariant-loop-rest
invariant-loop-rest l = l.out ++ steps_forms (writing l.names) l.rest ≡ l.fn.out ++ steps_forms (writing l.names) l.steps

abbrev pub decreases-loop-rest : goal.decreases-loop-rest
decreases-loop-rest l = length l.rest
