use Rattle.rpl_tree.proofs.Nests.{whole_policy, elseif_nests, no_else}
use Rattle.rpl_tree.proofs.laws.statements_nest.Goals as goal

pub returns-clause-steps : goal.returns-clause-steps
returns-clause-steps c = whole_policy

pub returns-clause-elseif : goal.returns-clause-elseif
returns-clause-elseif c = elseif_nests

pub returns-clause-without_else : goal.returns-clause-without_else
returns-clause-without_else c = no_else
