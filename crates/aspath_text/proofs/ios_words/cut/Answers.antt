use Rattle.std.proofs.Common.{arith}
use Rattle.aspath_text.proofs.IosReadCuts.{cut_here, cut_nowhere}
use Rattle.aspath_text.proofs.ios_words.cut.Goals as goal

pub returns-then-place-text : goal.returns-then-place-text
returns-then-place-text c = cut_nowhere c.args.byte 0 c.part_length-place.result c.args.text.now c.part_length-place.ensures.value c.if-place-text.true

pub returns : goal.returns
returns c = cut_here c.args.byte 0 c.part_length-place.result c.args.text.now c.part_length-place.ensures.value (omega (arith, c.part_length-place.ensures.within, c.if-place-text.false))
