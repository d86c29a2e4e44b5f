use Rattle.std.proofs.Common.{◌≡◌, length, map}
use Rattle.junos_layout.specs.Terms.{literal_term}
use Rattle.junos_policies.specs.Names.{writing}
use Rattle.junos_policies.specs.Terms.{with_terms}
use Rattle.junos_policies.proofs.terms.push_literals.Given as goal

abbrev pub invariant-loop-rest : goal.invariant-loop-rest
invariant-loop-rest l = with_terms l.out (map (literal_term (writing l.names)) l.rest) ≡ with_terms l.fn.out (map (literal_term (writing l.names)) l.literals)

abbrev pub decreases-loop-rest : goal.decreases-loop-rest
decreases-loop-rest l = length l.rest
