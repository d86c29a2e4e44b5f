use Rattle.std.proofs.Common.{ℕ, sym, subst}
use Rattle.settled_graph.specs.Plans.{LeadsTo}
use Rattle.settled_graph.proofs.PlanLaws.{do_leads}
use Rattle.settled_graph.proofs.plan.plan_of.Goals as goal

pub returns-in_ok-pending-in-Do : goal.returns-in_ok-pending-in-Do
returns-in_ok-pending-in-Do c =
    let waits = c.in_ok-pending-in-Do.pending in
    subst (λ (p : ℕ). LeadsTo c.args.core.now c.args.key.now (record { place = p; pending = waits })) (sym c.place-in-Do.ensures)
    (do_leads c.args.core.now c.args.key.now c.kind.result.now c.in-Do.change c.in-Do.next waits c.kind.ensures.facts c.kind.ensures.at c.in-Do.is c.in_ok-pending-in-Do.ensures)
