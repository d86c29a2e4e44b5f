use Rattle.std.proofs.Common.{None}
use Rattle.ios_lower.proofs.NamedLaws.{others}
use Rattle.ios_lower.proofs.named.taken.Goals as goal

pub returns-in-Some-clause-others : goal.returns-in-Some-clause-others
returns-in-Some-clause-others g c = λ q e. others c.args.lists.now c.remove.new.self c.args.name.now None c.remove.ensures.updates q e
