use Rattle.std.proofs.Common.{◌∙◌, ap, List}
use Rattle.std.specs.List.{list_any}
use Rattle.junos_plans.specs.Conditions.{condition_holds, entries_accept}
use Rattle.junos_plans.specs.declared.condition.PlannedList.{PlannedList}
use Rattle.junos_plans.proofs.EntryLaws.{comm_lists_decide}
use Rattle.junos_plans.proofs.atoms.communities.Goals as goal

pub returns-clause-holds : goal.returns-clause-holds
returns-clause-holds c r range =
    c.in_ok-test.ensures.holds r
    ∙ ap (λ (ls : List PlannedList). list_any (λ l. entries_accept (condition_holds r) l.entries) ls) c.in_ok-planned.ensures.same
    ∙ comm_lists_decide r c.args.lists.now c.requires
