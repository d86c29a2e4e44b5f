use Rattle.std.proofs.Common.{refl}
use Rattle.route_drafts.specs.Drafts.{route_of}
use Rattle.rpl_meaning.proofs.CommunityLaws.{behind_steps, one_done, each_done}
use Rattle.rpl_meaning.proofs.communities.all_done.Goals as goal

pub loop-rest-preserved : goal.loop-rest-preserved
loop-rest-preserved c =
    one_done c.loop-rest.rest.now c.first-item.result _ c.loop-rest.draft c.in_ok-draft.draft (λ p. behind_steps c.args.steps.now (route_of p c.args.draft)) c.in-len1-up.len_at_least c.first-item.is refl c.in_ok-draft.ensures c.loop-rest.invariant

pub returns : goal.returns
returns c = each_done c.loop-rest.rest.now c.loop-rest.draft (λ p. behind_steps c.args.steps.now (route_of p c.args.draft)) c.in_default.len_below c.loop-rest.invariant
