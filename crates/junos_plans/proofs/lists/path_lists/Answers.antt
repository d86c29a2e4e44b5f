use Rattle.std.proofs.Common.{◌∙◌, ◌-◌, ◌||◌, ap, sym, subst, length, Bool, List}
use Rattle.std.specs.Prelude.{take, drop}
use Rattle.std.specs.List.{list_any, AllByRecursion}
use Rattle.path_patterns.proofs.Lists.{first_tail}
use Rattle.core_nodes.specs.Atoms.{path_answers}
use Rattle.core_nodes.specs.declared.atom.PathList.{PathList}
use Rattle.junos_plans.specs.Conditions.{condition_holds, entries_accept}
use Rattle.junos_plans.specs.Fits.{FitsList}
use Rattle.junos_plans.specs.declared.condition.PlannedList.{PlannedList}
use Rattle.junos_plans.proofs.AtomLaws.{none_left}
use Rattle.junos_plans.proofs.EntryLaws.{or_none}
use Rattle.junos_plans.proofs.GatherLaws.{or_three}
use Rattle.junos_plans.proofs.lists.path_lists.Goals as goal

pub loop-rest-init : goal.loop-rest-init
loop-rest-init c = record {
  holds = λ r is. ap (λ (ts : List PlannedList). list_any (λ k. entries_accept (condition_holds r) k.entries) ts || list_any (λ k. path_answers k.entries r.path) c.args.lists.now) c.new-found.ensures;
  fits = subst (λ (ts : List PlannedList). AllByRecursion FitsList ts) (sym c.new-found.ensures) tt;
}

pub loop-rest-preserved : goal.loop-rest-preserved
loop-rest-preserved c = record {
  holds = λ r is.
      ap (λ (b : Bool). b || list_any (λ k. path_answers k.entries r.path) (take (length c.loop-rest.rest.now - 1) (drop 1 c.loop-rest.rest.now))) (c.in_ok-push_path_list.ensures.holds r is)
      ∙ or_three (list_any (λ k. entries_accept (condition_holds r) k.entries) c.loop-rest.found) (path_answers c.first-item.result.entries r.path) (list_any (λ k. path_answers k.entries r.path) (take (length c.loop-rest.rest.now - 1) (drop 1 c.loop-rest.rest.now)))
      ∙ ap (λ (ls : List PathList). list_any (λ k. entries_accept (condition_holds r) k.entries) c.loop-rest.found || list_any (λ k. path_answers k.entries r.path) ls) (sym (first_tail c.loop-rest.rest.now c.first-item.result c.in-len1-up.len_at_least c.first-item.is))
      ∙ c.loop-rest.invariant.holds r is;
  fits = c.in_ok-push_path_list.ensures.fits c.loop-rest.invariant.fits;
}

pub returns-clause-holds : goal.returns-clause-holds
returns-clause-holds c r is =
    sym (or_none (list_any (λ k. entries_accept (condition_holds r) k.entries) c.loop-rest.found))
    ∙ ap (λ (ls : List PathList). list_any (λ k. entries_accept (condition_holds r) k.entries) c.loop-rest.found || list_any (λ k. path_answers k.entries r.path) ls) (sym (none_left c.loop-rest.rest.now c.in_default.len_below))
    ∙ c.loop-rest.invariant.holds r is
