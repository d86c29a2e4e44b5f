use Rattle.std.proofs.Common.{arith}
use Rattle.rpl_text.proofs.Texts.{all_written}
use Rattle.rpl_text.proofs.write.push_forms.Goals as goal

pub returns : goal.returns
returns c = all_written c.loop-rest.block c.loop-rest.level c.loop-rest.rest.now c.args.forms.now c.loop-rest.out.items c.args.out.now.items (omega (arith, c.in_default.len_below)) c.loop-rest.invariant.written
