use Rattle.std.proofs.Common.{◌≡◌, ◌++◌, [], length}
use Rattle.rpl_plans.specs.Choices.{terms_from}
use Rattle.rpl_plans.proofs.terms.push_each.Given as goal

abbrev pub invariant-loop-rest : goal.invariant-loop-rest
invariant-loop-rest l = l.terms ++ terms_from l.denied l.rest ≡ l.fn.terms ++ terms_from [] l.choices

abbrev pub decreases-loop-rest : goal.decreases-loop-rest
decreases-loop-rest l = length l.rest
