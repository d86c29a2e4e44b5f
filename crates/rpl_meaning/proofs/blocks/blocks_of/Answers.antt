use Rattle.rpl_meaning.proofs.BlockLaws.{told}
use Rattle.rpl_meaning.proofs.blocks.blocks_of.Goals as goal

pub returns : goal.returns
returns g c = told g.S.BlockSort.named c.loop-rest.blocks.entries c.loop-rest.rest.now c.args.items.now c.in_default.len_below c.loop-rest.invariant
