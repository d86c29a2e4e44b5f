use Rattle.policy_request.proofs.ChainNames.{found, only}
use Rattle.policy_request.proofs.word_laws.one_chain.Goals as goal

pub returns-clause-found : goal.returns-clause-found
returns-clause-found c = found

pub returns-clause-only : goal.returns-clause-only
returns-clause-only c = only
