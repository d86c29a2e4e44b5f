use Rattle.expressible_table.proofs.FirstMissing.{lacks_first, one_first}
use Rattle.expressible_table.proofs.laws.one_first_missing.Goals as goal

pub returns : goal.returns
returns c = record { found = lacks_first; only = one_first }
