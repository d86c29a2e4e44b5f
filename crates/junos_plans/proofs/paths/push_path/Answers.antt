use Rattle.std.proofs.Common.{◌∙◌, ap, subst, Bool, true, false, List}
use Rattle.junos_plans.specs.Conditions.{condition_holds, accept_or}
use Rattle.junos_plans.specs.Entries.{SaysPath}
use Rattle.junos_plans.specs.declared.condition.PlannedEntry.{PlannedEntry}
use Rattle.junos_plans.proofs.PathLaws.{or_behind}
use Rattle.junos_plans.proofs.paths.push_path.Goals as goal

pub returns-in_ok-push-in-Some-clause-holds : goal.returns-in_ok-push-in-Some-clause-holds
returns-in_ok-push-in-Some-clause-holds c r later is =
    let says = subst (SaysPath c.args.entry.now.pattern) c.in-Some.is c.in_ok-path_condition.ensures.says in
    ap (λ (es : List PlannedEntry). accept_or (condition_holds r) es later) c.in_ok-push-in-Some.ensures
    ∙ or_behind (condition_holds r) c.args.found.now (record { permit = c.args.entry.now.permit; condition = c.in-Some.condition }) later
    ∙ ap (λ (b : Bool). accept_or (condition_holds r) c.args.found.now (elim b [ true ↦ c.args.entry.now.permit | false ↦ later ])) (says r is)
