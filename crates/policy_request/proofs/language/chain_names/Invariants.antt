-- the names so far and those of the bytes that are left
use Rattle.std.proofs.Common.{length}
use Rattle.policy_request.proofs.Chains.{Splits}
use Rattle.policy_request.proofs.language.chain_names.Given as goal

abbrev pub invariant-loop-rest : goal.invariant-loop-rest
invariant-loop-rest l = Splits l.names.items l.from l.begun l.rest l.word

abbrev pub decreases-loop-rest : goal.decreases-loop-rest
decreases-loop-rest l = length l.rest
