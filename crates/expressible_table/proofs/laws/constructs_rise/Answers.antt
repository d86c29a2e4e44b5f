use Rattle.expressible_table.proofs.Rises.{map_rises}
use Rattle.expressible_table.proofs.laws.constructs_rise.Goals as goal

pub returns : goal.returns
returns c = λ name all end h. map_rises end all name h
