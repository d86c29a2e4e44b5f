use Rattle.std.proofs.Common.{sym, ap, ◌∙◌, List, ℕ, Option, Bor}
use Rattle.std.specs.Prelude.{option_map}
use Rattle.rpl_calls.specs.Arguments.{own_at}
use Rattle.rpl_calls.specs.Demands.{bound_up}
use Rattle.rpl_calls.specs.Said.{call_parts}
use Rattle.rpl_calls.proofs.demand.bound_up.Goals as goal

pub returns-in-Some : goal.returns-in-Some
returns-in-Some c =
    c.bound_above.ensures (own_at (call_parts c.args.call.now) c.args.place)
    ∙ ap (λ (o : Option (List ℕ)). bound_up o (own_at (call_parts c.args.call.now) c.args.place)) (sym (ap (λ (o : Option (Bor (List ℕ))). option_map (λ w. w.now) o) c.in-Some.is) ∙ c.word_at.ensures)
