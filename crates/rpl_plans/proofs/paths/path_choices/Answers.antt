use Rattle.std.proofs.Common.{◌∙◌, ◌-◌, ap, sym, subst, length, List}
use Rattle.std.specs.Prelude.{take, drop}
use Rattle.std.specs.List.{AllByRecursion}
use Rattle.path_patterns.proofs.Lists.{first_tail}
use Rattle.core_nodes.specs.Atoms.{path_answers}
use Rattle.core_nodes.specs.declared.atom.PathEntry.{PathEntry}
use Rattle.rpl_plans.specs.Choices.{first_or}
use Rattle.rpl_plans.specs.Fits.{FitsChoice}
use Rattle.rpl_plans.specs.Holds.{planned_holds}
use Rattle.rpl_plans.specs.declared.choice.Choice.{Choice}
use Rattle.rpl_plans.proofs.paths.path_choices.Goals as goal

pub loop-rest-init : goal.loop-rest-init
unfolding first_or
loop-rest-init c = record {
  holds = λ r is. ap (λ (cs : List Choice). first_or (planned_holds r) cs (path_answers c.args.entries.now r.path)) c.new-found.ensures;
  fits = subst (λ (cs : List Choice). AllByRecursion FitsChoice cs) (sym c.new-found.ensures) tt;
}

pub loop-rest-preserved : goal.loop-rest-preserved
unfolding path_answers
loop-rest-preserved c = record {
  holds = λ r is.
      c.in_ok-push_path.ensures.holds r (path_answers (take (length c.loop-rest.rest.now - 1) (drop 1 c.loop-rest.rest.now)) r.path) is
      ∙ ap (λ (es : List PathEntry). first_or (planned_holds r) c.loop-rest.found (path_answers es r.path)) (sym (first_tail c.loop-rest.rest.now c.first-item.result c.in-len1-up.len_at_least c.first-item.is))
      ∙ c.loop-rest.invariant.holds r is;
  fits = c.in_ok-push_path.ensures.fits c.loop-rest.invariant.fits;
}
