use Rattle.std.proofs.Common.{arith}
use Rattle.std.proofs.lemmas.Grind.{common_steps}
use Rattle.community_sets.proofs.Changes.{acts}
use Rattle.community_sets.proofs.change.then.Goals as goal

pub returns-clause-acts : goal.returns-clause-acts
returns-clause-acts c =
    acts c.args.first.now.removed c.args.second.now.removed c.from_vec.result c.args.first.now.added c.args.second.now.added c.from_vec-2.result (grind (arith, common_steps)) (grind (arith, common_steps))
