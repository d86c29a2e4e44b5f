use Rattle.std.proofs.Common.{ap, ◌∙◌, List, ◌++◌}
use Rattle.route_types.specs.declared.community.Community.{Community}
use Rattle.route_drafts.proofs.Drafts.{set}
use Rattle.route_drafts.proofs.draft.Draft.with_communities.Goals as goal

pub returns-clause-route : goal.returns-clause-route
returns-clause-route c =
    let made = c.from_vec.ensures ∙ c.in_ok-extend_from_slice.ensures.items ∙ ap (λ (cs : List Community). cs ++ c.args.added.now) c.base-communities.ensures in
    set c.args.self (record c.args.self { communities = c.from_vec.result }) c.args.additive c.args.added.now (ap (λ (cs : List Community). record c.args.self { communities = cs }) made)
