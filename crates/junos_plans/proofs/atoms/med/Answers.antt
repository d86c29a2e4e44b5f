use Rattle.std.proofs.Common.{◌∙◌, ◌++◌, ◌∷◌, [], ap, List}
use Rattle.std.specs.List.{list_any}
use Rattle.junos_plans.specs.Conditions.{condition_holds, entries_accept}
use Rattle.junos_plans.specs.declared.condition.PlannedEntry.{PlannedEntry}
use Rattle.junos_plans.specs.declared.condition.PlannedList.{PlannedList}
use Rattle.junos_plans.proofs.EntryLaws.{or_none, med_decides}
use Rattle.junos_plans.proofs.atoms.med.Goals as goal

pub returns-clause-holds : goal.returns-clause-holds
returns-clause-holds c r _ =
    c.in_ok-test.ensures.holds r
    ∙ ap (λ (ls : List PlannedList). list_any (λ l. entries_accept (condition_holds r) l.entries) ls)
    (c.in_ok-push.ensures ∙ ap (λ (ls : List PlannedList). ls ++ record { entries = c.in_ok-entries.entries } ∷ []) c.new-planned.ensures)
    ∙ or_none (entries_accept (condition_holds r) c.in_ok-entries.entries)
    ∙ ap (λ (es : List PlannedEntry). entries_accept (condition_holds r) es) c.in_ok-entries.ensures.same
    ∙ med_decides r c.args.numbers.now
