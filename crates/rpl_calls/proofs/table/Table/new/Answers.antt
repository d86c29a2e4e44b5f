use Rattle.std.proofs.Common.{ap, length}
use Rattle.rpl_calls.proofs.Tables.{none_told}
use Rattle.rpl_calls.proofs.table.Table.new.Goals as goal

pub returns : goal.returns
returns c = λ ps. none_told ps _ c.new.ensures (ap length c.new-2.ensures.items)
