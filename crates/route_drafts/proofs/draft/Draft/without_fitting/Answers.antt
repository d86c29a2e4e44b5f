use Rattle.std.proofs.Common.{ap, ◌∙◌, not, List}
use Rattle.std.specs.Prelude.{filter}
use Rattle.route_types.specs.Community.{fits}
use Rattle.route_types.specs.Sets.{fits_some}
use Rattle.route_types.specs.declared.community.Community.{Community}
use Rattle.route_drafts.proofs.Drafts.{removed}
use Rattle.route_drafts.proofs.draft.Draft.without_fitting.Goals as goal

pub returns-clause-route : goal.returns-clause-route
returns-clause-route c =
    let made = c.from_vec.ensures ∙ c.in_ok-communities.ensures ∙ ap (λ (cs : List Community). filter (λ x. not (fits_some fits c.args.rects.now x)) cs) c.as_slice.ensures in
    removed c.args.self (record c.args.self { communities = c.from_vec.result }) c.args.rects.now (ap (λ (cs : List Community). record c.args.self { communities = cs }) made)
