use Rattle.std.proofs.Common.{sym, subst, ◌∙◌, List}
use Rattle.step_search.specs.Found.{IsFound}
use Rattle.rpl_calls.specs.Linked.{linked_demands}
use Rattle.rpl_calls.specs.Said.{asks_in}
use Rattle.rpl_calls.specs.declared.demand.Demand.{Demand}
use Rattle.rpl_calls.proofs.Found.{demands_sound, demands_whole}
use Rattle.rpl_calls.proofs.demand.demands.Goals as goal

pub returns-clause-sound : goal.returns-clause-sound
returns-clause-sound c = λ d h.
    demands_sound c.args.arguments.now (asks_in c.args.asks.now) d (subst (λ (xs : List Demand). IsFound (linked_demands c.args.arguments.now) xs d) (c.as_slice.ensures ∙ c.in_ok-start.ensures) (c.in_ok-found.ensures.sound d h))

pub returns-clause-whole : goal.returns-clause-whole
returns-clause-whole c = λ d h.
    c.in_ok-found.ensures.whole d (subst (λ (xs : List Demand). IsFound (linked_demands c.args.arguments.now) xs d) (sym (c.as_slice.ensures ∙ c.in_ok-start.ensures)) (demands_whole c.args.arguments.now (asks_in c.args.asks.now) d h))
