use Rattle.std.proofs.Common.{None}
use Rattle.ios_meaning.proofs.Maps.{entries_others}
use Rattle.ios_meaning.proofs.deletions.taken_entries.Goals as goal

pub returns-in-Some-clause-others : goal.returns-in-Some-clause-others
returns-in-Some-clause-others c = λ q e. entries_others c.args.lists.now c.remove.new.self c.args.name.now None c.remove.ensures.updates q e
