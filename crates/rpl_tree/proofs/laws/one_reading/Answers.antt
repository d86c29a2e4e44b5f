use Rattle.rpl_tree.proofs.Trees.{one_tree, found_reads, read_found}
use Rattle.rpl_tree.proofs.laws.one_reading.Goals as goal

pub returns-clause-one : goal.returns-clause-one
returns-clause-one c = one_tree

pub returns-clause-found : goal.returns-clause-found
returns-clause-found c = found_reads

pub returns-clause-only : goal.returns-clause-only
returns-clause-only c = read_found
