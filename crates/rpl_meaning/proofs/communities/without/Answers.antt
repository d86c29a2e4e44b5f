use Rattle.std.proofs.Common.{ap, ◌∙◌, List}
use Rattle.std.proofs.lemmas.Result.{IfOk-weaker}
use Rattle.route_types.specs.Community.{RectParts, set_of}
use Rattle.route_drafts.specs.Drafts.{route_of}
use Rattle.rpl_meaning.specs.Communities.{unfitted_by}
use Rattle.rpl_meaning.proofs.communities.without.Goals as goal

pub returns : goal.returns
returns c =
    IfOk-weaker c.without_fitting.result _ _
    (λ d made p.
    made p
    ∙ ap (λ (rs : List RectParts). record (route_of p c.args.draft) { communities = unfitted_by rs (set_of c.args.draft.communities) })
    (c.as_slice.ensures.value ∙ c.in_ok-rects.ensures))
    c.without_fitting.ensures.route
