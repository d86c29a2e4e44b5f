use Rattle.std.proofs.Common.{◌∙◌, ap, List}
use Rattle.std.specs.List.{list_any}
use Rattle.junos_plans.specs.Conditions.{condition_holds, entries_accept}
use Rattle.junos_plans.specs.declared.condition.PlannedList.{PlannedList}
use Rattle.junos_plans.proofs.GatherLaws.{never_adds}
use Rattle.junos_plans.proofs.gathered.simplified.Goals as goal

pub returns-in_ok-lists-in-None-clause-holds : goal.returns-in_ok-lists-in-None-clause-holds
returns-in_ok-lists-in-None-clause-holds c r =
    ap (λ (ls : List PlannedList). list_any (λ l. entries_accept (condition_holds r) l.entries) ls) c.in_ok-lists-in-None.ensures
    ∙ never_adds (condition_holds r) c.args.lists
