use Rattle.std.proofs.Common.{◌≡◌, ◌++◌, length}
use Rattle.std.specs.List.{flat_map}
use Rattle.junos_layout.specs.Terms.{condition_lines}
use Rattle.junos_policies.specs.Names.{writing}
use Rattle.junos_policies.proofs.conditions.push_conditions.Given as goal

abbrev pub invariant-loop-rest : goal.invariant-loop-rest
invariant-loop-rest l = l.out ++ flat_map (condition_lines (writing l.names)) l.rest ≡ l.fn.out ++ flat_map (condition_lines (writing l.names)) l.conditions

abbrev pub decreases-loop-rest : goal.decreases-loop-rest
decreases-loop-rest l = length l.rest
