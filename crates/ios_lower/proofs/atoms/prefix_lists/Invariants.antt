use Rattle.std.proofs.Common.{◌≡◌, ◌++◌, length}
use Rattle.std.specs.Prelude.{map}
use Rattle.ios_lower.specs.Atoms.{prefix_list_of}
use Rattle.ios_lower.proofs.atoms.prefix_lists.Given as goal

abbrev pub invariant-loop-rest : goal.invariant-loop-rest
invariant-loop-rest l = l.found ++ map (prefix_list_of l.lists.items.now l.line.family) l.rest ≡ map (prefix_list_of l.lists.items.now l.line.family) l.line.lists

abbrev pub decreases-loop-rest : goal.decreases-loop-rest
decreases-loop-rest l = length l.rest
