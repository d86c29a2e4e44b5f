use Rattle.rpl_tree.specs.Blocks.{outside}
use Rattle.rpl_tree.proofs.Faults.{found_first, first_found, none_found}
use Rattle.rpl_tree.proofs.laws.first_faults.Goals as goal

pub returns-clause-found : goal.returns-clause-found
returns-clause-found c = λ ss fault. found_first ss outside fault

pub returns-clause-only : goal.returns-clause-only
returns-clause-only c = λ ss span kind. first_found ss outside span kind

pub returns-clause-whole : goal.returns-clause-whole
returns-clause-whole c = λ ss. none_found ss outside
