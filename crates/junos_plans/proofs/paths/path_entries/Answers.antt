use Rattle.std.proofs.Common.{◌∙◌, ◌-◌, ap, sym, subst, length, List}
use Rattle.std.specs.Prelude.{take, drop}
use Rattle.std.specs.List.{AllByRecursion}
use Rattle.path_patterns.proofs.Lists.{first_tail}
use Rattle.core_nodes.specs.Atoms.{path_answers}
use Rattle.core_nodes.specs.declared.atom.PathEntry.{PathEntry}
use Rattle.junos_plans.specs.Conditions.{condition_holds, accept_or}
use Rattle.junos_plans.specs.Fits.{FitsEntry}
use Rattle.junos_plans.specs.declared.condition.PlannedEntry.{PlannedEntry}
use Rattle.junos_plans.proofs.AtomLaws.{none_left}
use Rattle.junos_plans.proofs.PathLaws.{or_nothing}
use Rattle.junos_plans.proofs.paths.path_entries.Goals as goal

pub loop-rest-init : goal.loop-rest-init
unfolding accept_or
loop-rest-init c = record {
  holds = λ r is. ap (λ (es : List PlannedEntry). accept_or (condition_holds r) es (path_answers c.args.entries.now r.path)) c.new-found.ensures;
  fits = subst (λ (es : List PlannedEntry). AllByRecursion FitsEntry es) (sym c.new-found.ensures) tt;
}

pub loop-rest-preserved : goal.loop-rest-preserved
unfolding path_answers
loop-rest-preserved c = record {
  holds = λ r is.
      c.in_ok-push_path.ensures.holds r (path_answers (take (length c.loop-rest.rest.now - 1) (drop 1 c.loop-rest.rest.now)) r.path) is
      ∙ ap (λ (es : List PathEntry). accept_or (condition_holds r) c.loop-rest.found (path_answers es r.path)) (sym (first_tail c.loop-rest.rest.now c.first-item.result c.in-len1-up.len_at_least c.first-item.is))
      ∙ c.loop-rest.invariant.holds r is;
  fits = c.in_ok-push_path.ensures.fits c.loop-rest.invariant.fits;
}

pub returns-clause-holds : goal.returns-clause-holds
unfolding path_answers
returns-clause-holds c r is =
    sym (or_nothing (condition_holds r) c.loop-rest.found)
    ∙ ap (λ (es : List PathEntry). accept_or (condition_holds r) c.loop-rest.found (path_answers es r.path)) (sym (none_left c.loop-rest.rest.now c.in_default.len_below))
    ∙ c.loop-rest.invariant.holds r is
