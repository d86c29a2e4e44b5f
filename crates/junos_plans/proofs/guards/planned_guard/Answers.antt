use Rattle.std.proofs.Common.{◌∙◌, ◌&&◌, ap, sym, subst, List}
use Rattle.std.specs.List.{AllByRecursion, IsDistinct, list_all}
use Rattle.policy_core.specs.Guards.{guard_holds}
use Rattle.junos_plans.specs.Conditions.{condition_holds}
use Rattle.junos_plans.specs.Fits.{FitsCondition, FitsLiteral, same_kind}
use Rattle.junos_plans.specs.Plans.{guard_says, literal_says}
use Rattle.junos_plans.specs.declared.condition.PlannedCondition.{PlannedCondition}
use Rattle.junos_plans.specs.declared.step.PlannedLiteral.{PlannedLiteral}
use Rattle.junos_plans.proofs.guards.planned_guard.Goals as goal

pub loop-rest-init : goal.loop-rest-init
unfolding IsDistinct
loop-rest-init c = record {
  says = λ r _.
      ap (λ (cs : List PlannedCondition). guard_says (condition_holds r) (record { conditions = cs; literals = c.new-2.result }) && guard_holds c.args.guard.now r) c.new.ensures
      ∙ ap (λ (ls : List PlannedLiteral). list_all (literal_says (condition_holds r)) ls && guard_holds c.args.guard.now r) c.new-2.ensures;
  fits = record {
    conditions = subst (λ (cs : List PlannedCondition). AllByRecursion FitsCondition cs) (sym c.new.ensures) tt;
    different = subst (λ (cs : List PlannedCondition). IsDistinct same_kind cs) (sym c.new.ensures) tt;
    literals = subst (λ (ls : List PlannedLiteral). AllByRecursion FitsLiteral ls) (sym c.new-2.ensures) tt;
  };
  sayable = c.requires;
}
