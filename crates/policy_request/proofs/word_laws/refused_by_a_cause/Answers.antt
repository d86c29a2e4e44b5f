use Rattle.policy_request.proofs.Causes.{causes, refuses}
use Rattle.policy_request.proofs.word_laws.refused_by_a_cause.Goals as goal

pub returns-clause-causes : goal.returns-clause-causes
returns-clause-causes c = causes

pub returns-clause-refuses : goal.returns-clause-refuses
returns-clause-refuses c = refuses
