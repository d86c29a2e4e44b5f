use Rattle.std.proofs.Common.{◌∙◌}
use Rattle.ios_meaning.proofs.Members.{found_member}
use Rattle.ios_meaning.proofs.community_answers.is_member.Goals as goal

pub returns : goal.returns
returns c =
    c.is_ok.ensures.value ∙ found_member c.args.community.now.0 c.args.ordered.now c.binary_search.result c.requires c.binary_search.ensures.bound c.binary_search.ensures.position
