use Rattle.std.proofs.Common.{◌≡◌, ◌++◌, length, map}
use Rattle.junos_layout.specs.Writing.{OfList}
use Rattle.junos_policies.specs.Names.{writing}
use Rattle.junos_policies.proofs.names.Names.lists.Given as goal

abbrev pub invariant-loop-rest : goal.invariant-loop-rest
invariant-loop-rest l = l.words ++ map (λ m. (writing l.fn.self).subroutine (OfList m)) l.rest ≡ map (λ m. (writing l.fn.self).subroutine (OfList m)) l.lists

abbrev pub decreases-loop-rest : goal.decreases-loop-rest
decreases-loop-rest l = length l.rest
