use Rattle.std.proofs.Common.{◌≡◌, length}
use Rattle.junos_layout.specs.Terms.{step_terms}
use Rattle.junos_policies.specs.Names.{writing}
use Rattle.junos_policies.specs.Terms.{with_terms}
use Rattle.junos_policies.proofs.terms.push_steps.Given as goal

abbrev pub invariant-loop-rest : goal.invariant-loop-rest
invariant-loop-rest l = with_terms l.out (step_terms (writing l.names) l.rest) ≡ with_terms l.fn.out (step_terms (writing l.names) l.steps)

abbrev pub decreases-loop-rest : goal.decreases-loop-rest
decreases-loop-rest l = length l.rest
