use Rattle.std.proofs.Common.{◌∙◌, ◌++◌, ap, ℕ, List}
use Rattle.rpl_layout.specs.Statements.{prepends_of}
use Rattle.rpl_policies.specs.Acts.{acts}
use Rattle.rpl_policies.proofs.Acts.{acts_then}
use Rattle.rpl_policies.proofs.actions.push_actions.Goals as goal

pub returns : goal.returns
returns c =
    let prepends = c.in_ok-push_prepends.ensures ∙ ap (λ (ns : List ℕ). c.push_next_hop.new.out ++ acts (prepends_of ns)) c.as_slice.ensures in
    acts_then _ _ _ _ _ c.in_ok-push_local_preference.ensures
    (acts_then _ _ _ _ _ c.in_ok-push_med.ensures
    (acts_then _ _ _ _ _ c.in_ok-push_weight.ensures
    (acts_then _ _ _ _ _ c.in_ok-push_origin.ensures
    (acts_then _ _ _ _ _ c.in_ok-push_next_hop.ensures
    (acts_then _ _ _ _ _ prepends c.in_ok-push_communities.ensures)))))
