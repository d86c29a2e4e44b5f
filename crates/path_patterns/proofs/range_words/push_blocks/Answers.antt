use Rattle.std.proofs.Common.{◌+◌, arith}
use Rattle.path_patterns.proofs.RangeWordsGrown.{grown_more}
use Rattle.path_patterns.proofs.range_words.push_blocks.Goals as goal

pub loop-next-preserved : goal.loop-next-preserved
loop-next-preserved c = (
  grown_more c.args.out.now.items c.loop-next.out.items c.push_word.new.out.items c.args.range.now.least c.loop-next.next c.args.range.now.most c.in_ok-block.block.last (c.from-next-in-loop-next.result + 1) c.in_ok-block.block.sets
      c.loop-next.invariant.1 (omega arith) c.loop-next.invariant.0 c.in_ok-block.ensures c.in_ok-push_word.ensures (omega arith),
  omega (arith, c.in_ok-block.ensures.starts),
  omega (arith, c.in_ok-block.ensures.ends),
  omega arith,
)
