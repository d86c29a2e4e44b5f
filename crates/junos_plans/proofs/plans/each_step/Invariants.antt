use Rattle.std.proofs.Common.{◌≡◌, ◌++◌, true, List, length}
use Rattle.std.specs.List.{list_all}
use Rattle.policy_core.specs.Guards.{step_says}
use Rattle.policy_core.specs.Sayable.{junos_atom, junos_change}
use Rattle.junos_plans.specs.Fits.{FitsSteps}
use Rattle.junos_plans.specs.Plans.{SaysSteps}
use Rattle.junos_plans.specs.declared.step.PlannedStep.{PlannedStep}
use Rattle.junos_plans.proofs.plans.each_step.Given as goal

abbrev pub invariant-loop-rest : goal.invariant-loop-rest
invariant-loop-rest l = record {
  says : (ps : List PlannedStep) → SaysSteps l.rest ps → SaysSteps l.steps (l.found ++ ps);
  fits : FitsSteps l.found;
  range : list_all (step_says junos_atom junos_change) l.rest ≡ true;
}

abbrev pub decreases-loop-rest : goal.decreases-loop-rest
decreases-loop-rest l = length l.rest
