use Rattle.junos_meaning.proofs.MapLaws.{tells_answers}
use Rattle.junos_meaning.proofs.lists.lists_of.Goals as goal

pub returns : goal.returns
returns c = tells_answers c.args.prefix.now c.loop-rest.lists.entries c.loop-rest.rest.now c.args.items.now c.in_default.len_below c.loop-rest.invariant
