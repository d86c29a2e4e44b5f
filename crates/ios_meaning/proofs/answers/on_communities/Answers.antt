use Rattle.std.proofs.Common.{sym, subst, List}
use Rattle.route_types.specs.Community.{IsAscending}
use Rattle.route_types.specs.declared.community.Community.{Community}
use Rattle.ios_meaning.specs.Answers.{AreCommunityAnswers}
use Rattle.ios_meaning.proofs.CommunityLists.{community_answers}
use Rattle.ios_meaning.proofs.Members.{ordered}
use Rattle.ios_meaning.proofs.answers.on_communities.Goals as goal

pub answers-requires : goal.answers-requires
answers-requires c = ordered c.communities.result.now (subst IsAscending (sym c.communities.ensures.value) c.communities.ensures.ascending)

pub returns : goal.returns
returns c =
    subst (λ (cs : List Community). AreCommunityAnswers c.args.items.now c.args.exact cs c.in_ok-found.found) c.communities.ensures.value
    (community_answers c.args.items.now c.args.exact c.communities.result.now c.in_ok-found.found c.in_ok-found.ensures)
