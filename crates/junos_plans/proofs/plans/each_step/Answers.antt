use Rattle.std.proofs.Common.{sym, subst, [], List, append-nil}
use Rattle.policy_core.specs.declared.step.Step.{Step}
use Rattle.junos_plans.specs.Plans.{SaysSteps}
use Rattle.junos_plans.specs.declared.step.PlannedStep.{PlannedStep}
use Rattle.junos_plans.proofs.AtomLaws.{none_left}
use Rattle.junos_plans.proofs.plans.each_step.Goals as goal

pub returns-clause-says : goal.returns-clause-says
returns-clause-says c =
    subst (λ (ps : List PlannedStep). SaysSteps c.args.steps.now ps) (append-nil c.loop-rest.found)
    (c.loop-rest.invariant.says [] (subst (λ (rest : List Step). SaysSteps rest []) (sym (none_left c.loop-rest.rest.now c.in_default.len_below)) tt))
