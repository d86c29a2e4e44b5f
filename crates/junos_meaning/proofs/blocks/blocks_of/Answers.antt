use Rattle.junos_meaning.proofs.MapLaws.{tells}
use Rattle.junos_meaning.proofs.blocks.blocks_of.Goals as goal

pub returns : goal.returns
returns g c = tells g.S.BlockSort.named c.loop-rest.blocks.entries c.loop-rest.rest.now c.args.items.now c.in_default.len_below c.loop-rest.invariant
