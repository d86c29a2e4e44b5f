use Rattle.junos_layout.proofs.Fitting.{definitions_fit}
use Rattle.junos_layout.proofs.laws.definitions_of_plans_fit.Goals as goal

pub returns : goal.returns
returns c = definitions_fit
