use Rattle.std.proofs.Common.{length}
use Rattle.rpl_meaning.specs.Blocks.{Goes}
use Rattle.rpl_meaning.proofs.blocks.blocks_of.Given as goal

abbrev pub decreases-loop-rest : goal.decreases-loop-rest
decreases-loop-rest g l = length l.rest

abbrev pub invariant-loop-rest : goal.invariant-loop-rest
invariant-loop-rest g l = Goes g.S.BlockSort.named l.blocks.entries l.rest l.items
