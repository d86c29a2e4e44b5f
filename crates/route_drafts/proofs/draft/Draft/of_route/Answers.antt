use Rattle.std.proofs.Common.{ap, ◌∙◌, ℕ, List}
use Rattle.std.specs.Prelude.{reverse}
use Rattle.route_drafts.proofs.Drafts.{drafted}
use Rattle.route_drafts.proofs.draft.Draft.of_route.Goals as goal

pub returns : goal.returns
returns c =
    let path = c.from_vec.ensures ∙ c.in_ok-path.ensures ∙ ap (λ (ns : List ℕ). reverse ns) c.path.ensures in
    let communities = c.from_vec-2.ensures ∙ c.in_ok-communities.ensures.items ∙ c.communities.ensures.value in
    drafted c.args.route.now c.next_hop.result.now c.origin.result.now c.local_preference.result c.med.result c.weight.result c.from_vec.result c.from_vec-2.result
    c.communities.ensures.ascending c.next_hop.ensures c.origin.ensures c.local_preference.ensures c.med.ensures c.weight.ensures path communities
