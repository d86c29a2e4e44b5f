use Rattle.std.proofs.Common.{◌≡◌, ◌++◌, true, List, length}
use Rattle.std.specs.List.{list_all}
use Rattle.policy_core.specs.Guards.{step_says}
use Rattle.policy_core.specs.Sayable.{rpl_atom, rpl_change}
use Rattle.rpl_plans.specs.Fits.{FitsSteps}
use Rattle.rpl_plans.specs.Plans.{SaysSteps}
use Rattle.rpl_plans.specs.declared.step.PlannedStep.{PlannedStep}
use Rattle.rpl_plans.proofs.plans.each_step.Given as goal

abbrev pub invariant-loop-rest : goal.invariant-loop-rest
invariant-loop-rest l = record {
  says : (ps : List PlannedStep) → SaysSteps l.rest ps → SaysSteps l.steps (l.found ++ ps);
  fits : FitsSteps l.found;
  range : list_all (step_says rpl_atom rpl_change) l.rest ≡ true;
}

abbrev pub decreases-loop-rest : goal.decreases-loop-rest
decreases-loop-rest l = length l.rest
