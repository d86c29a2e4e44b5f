use Rattle.junos_tree.proofs.Spelled.{is_spelled, is_found}
use Rattle.junos_tree.proofs.laws.forms_are_spelled.Goals as goal

pub returns-clause-found : goal.returns-clause-found
returns-clause-found c = is_spelled

pub returns-clause-only : goal.returns-clause-only
returns-clause-only c = is_found
