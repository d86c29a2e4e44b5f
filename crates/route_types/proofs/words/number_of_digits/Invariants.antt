use Rattle.std.proofs.Common.{◌≡◌, length}
use Rattle.route_types.specs.Walk.{number_after}
use Rattle.route_types.proofs.words.number_of_digits.Given as goal

abbrev pub decreases-loop-rest : goal.decreases-loop-rest
decreases-loop-rest l = length l.rest

abbrev pub invariant-loop-rest : goal.invariant-loop-rest
invariant-loop-rest l = number_after l.most l.value l.rest ≡ number_after l.most 0 l.digits
