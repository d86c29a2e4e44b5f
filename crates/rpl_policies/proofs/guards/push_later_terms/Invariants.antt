use Rattle.std.proofs.Common.{◌≡◌, ◌++◌, length, map}
use Rattle.rpl_words.specs.declared.condition.Term.TheVariants.{Or}
use Rattle.rpl_layout.specs.Guards.{term_condition}
use Rattle.rpl_policies.specs.Postfix.{each_before}
use Rattle.rpl_policies.specs.Names.{writing}
use Rattle.rpl_policies.proofs.guards.push_later_terms.Given as goal

abbrev pub invariant-loop-rest : goal.invariant-loop-rest
invariant-loop-rest l = l.out ++ each_before Or (map (λ u. term_condition (writing l.names) u) l.rest) ≡ l.fn.out ++ each_before Or (map (λ u. term_condition (writing l.names) u) l.terms)

abbrev pub decreases-loop-rest : goal.decreases-loop-rest
decreases-loop-rest l = length l.rest
