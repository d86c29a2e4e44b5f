use Rattle.std.proofs.Common.{◌≡◌, ◌++◌, length}
use Rattle.std.specs.List.{flat_map}
use Rattle.rpl_facts.specs.Uses.{of_path}
use Rattle.rpl_facts.specs.Used.{uses_in}
use Rattle.rpl_facts.proofs.uses.push_paths.Given as goal

abbrev pub invariant-loop-rest : goal.invariant-loop-rest
invariant-loop-rest l = uses_in l.row ++ flat_map of_path l.rest ≡ uses_in l.fn.row ++ flat_map of_path l.elements

abbrev pub decreases-loop-rest : goal.decreases-loop-rest
decreases-loop-rest l = length l.rest
