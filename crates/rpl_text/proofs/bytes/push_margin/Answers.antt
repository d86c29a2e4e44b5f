use Rattle.rpl_text.proofs.Texts.{margin_more}
use Rattle.rpl_text.proofs.bytes.push_margin.Goals as goal

pub loop-left-preserved : goal.loop-left-preserved
loop-left-preserved c = margin_more c.extend_from_slice.new.self.items c.loop-left.out.items _ c.loop-left.left c.in_ok-extend_from_slice.ensures.items c.loop-left.invariant c.loop-left-test.true
