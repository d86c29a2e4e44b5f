use Rattle.std.proofs.Common.{◌≡◌, false, length}
use Rattle.policy_request.specs.Languages.{are_given_from}
use Rattle.policy_request.proofs.language.is_chain.Given as goal

abbrev pub invariant-loop-rest : goal.invariant-loop-rest
invariant-loop-rest l = are_given_from l.begun l.rest ≡ are_given_from false l.word

abbrev pub decreases-loop-rest : goal.decreases-loop-rest
decreases-loop-rest l = length l.rest
