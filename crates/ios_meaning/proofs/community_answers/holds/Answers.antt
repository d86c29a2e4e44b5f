use Rattle.ios_meaning.proofs.Members.{standard_holds}
use Rattle.ios_meaning.proofs.community_answers.holds.Goals as goal

pub returns-else-exact : goal.returns-else-exact
returns-else-exact c = standard_holds c.args.shape.now c.in-Standard.members c.as_slice-else-exact.result.now c.args.ordered.now c.args.exact c.are_members.result c.in-Standard.is c.if-exact.false c.as_slice-else-exact.ensures c.are_members.ensures
