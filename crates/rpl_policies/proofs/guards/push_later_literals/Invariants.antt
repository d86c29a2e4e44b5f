use Rattle.std.proofs.Common.{◌≡◌, ◌++◌, true, length}
use Rattle.std.specs.List.{flat_map}
use Rattle.rpl_layout.specs.Guards.{literal_among}
use Rattle.rpl_policies.specs.Postfix.{joined_terms}
use Rattle.rpl_policies.specs.Names.{writing}
use Rattle.rpl_policies.proofs.guards.push_later_literals.Given as goal

abbrev pub invariant-loop-rest : goal.invariant-loop-rest
invariant-loop-rest l = l.out ++ flat_map (λ m. joined_terms true (literal_among (writing l.names) m)) l.rest ≡ l.fn.out ++ flat_map (λ m. joined_terms true (literal_among (writing l.names) m)) l.literals

abbrev pub decreases-loop-rest : goal.decreases-loop-rest
decreases-loop-rest l = length l.rest
