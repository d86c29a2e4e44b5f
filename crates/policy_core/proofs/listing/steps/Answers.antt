use Rattle.std.proofs.Common.{◌≡◌, ◌∙◌, true, ap, sym, subst}
use Rattle.std.specs.List.{list_all}
use Rattle.policy_core.specs.Steps.{steps_at}
use Rattle.policy_core.specs.Guards.{outcome_of, IsClosed, step_says}
use Rattle.policy_core.proofs.StepLaws.{steps_give, steps_closed, steps_say}
use Rattle.policy_core.proofs.listing.steps.Goals as goal

listed : (c : goal.After-into_vec) → c.into_vec.result.items ≡ steps_at c.args.core.now c.args.node
listed c = c.into_vec.ensures ∙ c.in_ok-found.ensures ∙ ap (λ p. steps_at c.args.core.now p) c.place.ensures

pub returns-clause-outcome : goal.returns-clause-outcome
returns-clause-outcome c r =
    ap (λ xs. outcome_of xs r) (listed c) ∙ steps_give c.args.core.now c.args.node c.count.ensures.facts c.requires.within c.requires.settled r

pub returns-clause-closed : goal.returns-clause-closed
returns-clause-closed c =
    subst (λ xs. IsClosed xs) (sym (listed c)) (steps_closed c.args.core.now c.args.node c.count.ensures.facts c.requires.within c.requires.settled)

pub returns-clause-says : goal.returns-clause-says
returns-clause-says c on_atom on_change h =
    subst (λ xs. list_all (step_says on_atom on_change) xs ≡ true) (sym (listed c)) (steps_say on_atom on_change c.args.core.now c.args.node h)
