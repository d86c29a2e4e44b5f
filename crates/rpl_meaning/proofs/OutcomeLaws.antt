-- The outcome of a run by the effect of its policy, and the route that its changes leave.
use Rattle.std.proofs.Common.{◌≡◌, ap, ◌∙◌, subst, Bool, List, Option}
use Rattle.route_types.specs.Address.{PrefixParts}
use Rattle.route_types.specs.Community.{IsAscending}
use Rattle.route_types.specs.Route.{RouteParts}
use Rattle.route_types.specs.declared.community.Community.{Community}
use Rattle.route_types.proofs.Sets.{set_of_ascending}
use Rattle.route_drafts.specs.Drafts.{route_of}
use Rattle.route_drafts.specs.declared.draft.Draft.{Draft}
use Rattle.rpl_effects.specs.Answers.{last_answer}
use Rattle.rpl_effects.specs.Changes.{Acts, all_done, route_behind}
use Rattle.rpl_effects.specs.Pieces.{leaves, leaves_at, steps_of}
use Rattle.rpl_effects.specs.declared.effect.Changes.{Changes}
use Rattle.rpl_meaning.specs.Communities.{stepped}
use Rattle.rpl_meaning.specs.Walk.{Ending}
use Rattle.rpl_meaning.specs.declared.communities.CommunityStep.{CommunityStep}
use Rattle.rpl_meaning.proofs.CommunityLaws.{same_done}

-- the steps that count, done on the draft with all other changes
pub made_route : (older : List Ending) (c : Changes CommunityStep) (r : RouteParts) (d e : Draft) (steps : List CommunityStep)
    → ((acts : Acts CommunityStep) → route_of r.prefix d ≡ record (route_behind acts older c r) { communities = r.communities })
    → ((p : PrefixParts) → route_of p e ≡ record (route_of p d) { communities = all_done stepped steps (route_of p d).communities })
    → ((answer : CommunityStep → Option Bool) → last_answer answer steps ≡ last_answer answer (leaves (leaves_at steps_of older) c.steps))
    → route_of r.prefix e ≡ route_behind stepped older c r
made_route older c r d e steps drafted done same =
    done r.prefix
    ∙ ap (λ (x : RouteParts). record x { communities = all_done stepped steps x.communities }) (drafted stepped)
    ∙ ap (λ (set : List Community). record (route_behind stepped older c r) { communities = set })
    (same_done steps (leaves (leaves_at steps_of older) c.steps) r.communities (subst IsAscending (ap (λ (x : RouteParts). x.communities) (drafted stepped)) (set_of_ascending d.communities)) same)
