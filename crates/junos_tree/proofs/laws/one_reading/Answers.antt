use Rattle.junos_tree.proofs.Reading.{one_reading}
use Rattle.junos_tree.proofs.laws.one_reading.Goals as goal

pub returns : goal.returns
returns c = one_reading
