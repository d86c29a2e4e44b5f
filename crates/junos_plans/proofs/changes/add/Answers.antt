use Rattle.std.proofs.Common.{◌∙◌, ap, sym, ℕ, List}
use Rattle.route_types.specs.Change.{changed}
use Rattle.route_types.specs.declared.change.Change.{Change}
use Rattle.junos_plans.specs.Changes.{changed_as, prepended}
use Rattle.junos_plans.proofs.ChangeLaws.{one_more}
use Rattle.junos_plans.proofs.changes.add.Goals as goal

pub returns-in_ok-push-in-Prepend-clause-acts : goal.returns-in_ok-push-in-Prepend-clause-acts
returns-in_ok-push-in-Prepend-clause-acts c r =
    ap (λ (path : List ℕ). record (changed_as c.args.planned.now r) { path = path })
    (ap (λ (ns : List ℕ). prepended ns r.path) c.in_ok-push-in-Prepend.ensures ∙ one_more c.args.planned.now.prepended c.in-Prepend.number r.path)
    ∙ ap (λ (k : Change). changed k (changed_as c.args.planned.now r)) (sym c.in-Prepend.is)
