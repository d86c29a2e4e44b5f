use Rattle.std.proofs.Common.{◌≡◌, ◌++◌, length, map}
use Rattle.rpl_words.specs.Conditions.{Asks, Negated}
use Rattle.rpl_words.specs.declared.condition.Term.TheVariants.{And}
use Rattle.rpl_policies.specs.Postfix.{each_before}
use Rattle.rpl_policies.specs.Names.{writing}
use Rattle.rpl_policies.proofs.guards.push_later_denied.Given as goal

abbrev pub invariant-loop-rest : goal.invariant-loop-rest
invariant-loop-rest l = l.out ++ each_before And (map (λ t. Negated (Asks (writing l.names t))) l.rest) ≡ l.fn.out ++ each_before And (map (λ t. Negated (Asks (writing l.names t))) l.tests)

abbrev pub decreases-loop-rest : goal.decreases-loop-rest
decreases-loop-rest l = length l.rest
