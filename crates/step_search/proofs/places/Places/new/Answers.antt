use Rattle.std.proofs.Common.{ap, length}
use Rattle.step_search.proofs.Tables.{none_told}
use Rattle.step_search.proofs.places.Places.new.Goals as goal

pub returns : goal.returns
returns c = λ names. none_told names _ c.new.ensures (ap length c.new-2.ensures.items)
