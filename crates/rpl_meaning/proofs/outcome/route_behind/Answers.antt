use Rattle.std.proofs.Common.{ap, ◌∙◌, List}
use Rattle.std.proofs.lemmas.Result.{IfOk-weaker}
use Rattle.route_types.specs.Address.{PrefixParts}
use Rattle.route_drafts.specs.Drafts.{route_of}
use Rattle.rpl_meaning.specs.declared.communities.CommunityStep.{CommunityStep}
use Rattle.rpl_meaning.proofs.CommunityLaws.{behind_steps}
use Rattle.rpl_meaning.proofs.OutcomeLaws.{made_route}
use Rattle.rpl_meaning.proofs.outcome.route_behind.Goals as goal

pub returns : goal.returns
returns c =
    IfOk-weaker c.finished.result _ _
    (λ r made.
    made
    ∙ ap (λ (p : PrefixParts). route_of p c.in_ok-draft-2.draft) c.prefix.ensures
    ∙ made_route c.args.older.now c.args.changes.now c.args.route.now c.in_ok-draft.draft c.in_ok-draft-2.draft c.in_ok-steps.steps.items c.in_ok-draft.ensures
    (λ p. c.in_ok-draft-2.ensures p ∙ ap (λ (steps : List CommunityStep). behind_steps steps (route_of p c.in_ok-draft.draft)) c.as_slice.ensures.value) c.in_ok-steps.ensures)
    c.finished.ensures
