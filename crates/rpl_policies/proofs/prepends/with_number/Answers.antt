use Rattle.std.proofs.Common.{◌∙◌, ◌++◌, ◌∷◌, [], ap, sym, refl, List}
use Rattle.rpl_forms.specs.declared.item.Action.{Action}
use Rattle.rpl_layout.specs.Statements.{prepend_of, prepends_from}
use Rattle.rpl_policies.specs.Acts.{acts}
use Rattle.rpl_policies.proofs.Acts.{acts_then, run_ends}
use Rattle.rpl_policies.proofs.prepends.with_number.Goals as goal

pub returns-clause-same : goal.returns-clause-same
returns-clause-same c ns =
    acts_then c.args.out.now c.push_run.new.out _ (prepend_of c.args.run.number c.args.run.times ∷ []) (prepends_from c.args.number 1 ns) c.in_ok-push_run.ensures refl
    ∙ ap (λ (xs : List Action). c.args.out.now ++ acts xs) (sym (run_ends c.args.run.number c.args.run.times c.args.number ns (sym c.if-goes_on.ensures)))
