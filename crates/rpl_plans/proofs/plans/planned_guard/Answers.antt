use Rattle.std.proofs.Common.{sym, subst, [], List, append-nil}
use Rattle.policy_core.specs.declared.step.Literal.{Literal}
use Rattle.rpl_plans.specs.Plans.{SaysGuard}
use Rattle.rpl_plans.specs.declared.step.PlannedLiteral.{PlannedLiteral}
use Rattle.rpl_plans.proofs.AtomLaws.{none_left}
use Rattle.rpl_plans.proofs.plans.planned_guard.Goals as goal

pub returns-clause-says : goal.returns-clause-says
returns-clause-says c =
    subst (λ (ps : List PlannedLiteral). SaysGuard c.args.guard.now ps) (append-nil c.loop-rest.found)
    (c.loop-rest.invariant.says [] (subst (λ (rest : List Literal). SaysGuard rest []) (sym (none_left c.loop-rest.rest.now c.in_default.len_below)) tt))
