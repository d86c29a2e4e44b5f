use Rattle.policy_calls.proofs.Walking.{walk_of, leads_by}
use Rattle.policy_calls.proofs.laws.leading_is_walking.Goals as goal

pub returns : goal.returns
returns c = record { walk = walk_of; leads = leads_by }
