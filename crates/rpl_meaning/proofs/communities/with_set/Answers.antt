use Rattle.std.proofs.Common.{ap, ◌∙◌, true, false, List, [], ◌++◌}
use Rattle.std.proofs.lemmas.Result.{IfOk-weaker}
use Rattle.route_types.specs.Community.{set_of}
use Rattle.route_types.specs.declared.community.Community.{Community}
use Rattle.route_drafts.specs.Drafts.{route_of}
use Rattle.rpl_meaning.proofs.communities.with_set.Goals as goal

pub returns : goal.returns
returns c =
    IfOk-weaker c.with_communities.result _ _
    (λ d made p.
    made p
    ∙ ap (λ (cs : List Community). record (route_of p c.args.draft) { communities = set_of (elim c.args.additive [ true ↦ set_of c.args.draft.communities | false ↦ [] ] ++ cs) })
    (c.as_slice.ensures.value ∙ c.in_ok-communities.ensures))
    c.with_communities.ensures.route
