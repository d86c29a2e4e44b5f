use Rattle.std.proofs.Common.{◌≡◌, ◌++◌, length}
use Rattle.std.specs.List.{flat_map}
use Rattle.rpl_facts.specs.Uses.{of_prefix}
use Rattle.rpl_facts.specs.Used.{uses_in}
use Rattle.rpl_facts.proofs.uses.push_prefixes.Given as goal

abbrev pub invariant-loop-rest : goal.invariant-loop-rest
invariant-loop-rest l = uses_in l.row ++ flat_map of_prefix l.rest ≡ uses_in l.fn.row ++ flat_map of_prefix l.elements

abbrev pub decreases-loop-rest : goal.decreases-loop-rest
decreases-loop-rest l = length l.rest
