use Rattle.ios_tree.proofs.Reading.Readings.{one_reading}
use Rattle.ios_tree.proofs.laws.one_reading.Goals as goal

pub returns : goal.returns
returns c = one_reading
