use Rattle.bit_diagrams.specs.Choice.{choice_place}
use Rattle.bit_diagrams.proofs.store.Diagrams.choice_place.Goals as goal

pub returns-clause-place : goal.returns-clause-place
unfolding choice_place
returns-clause-place c = cc
