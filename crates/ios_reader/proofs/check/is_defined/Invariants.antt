use Rattle.std.proofs.Common.{◌≡◌, length}
use Rattle.std.specs.List.{list_any}
use Rattle.ios_tree.specs.Sorts.{heads}
use Rattle.ios_reader.proofs.check.is_defined.Given as goal

abbrev pub invariant-loop-rest : goal.invariant-loop-rest
invariant-loop-rest l = list_any (heads l.policy) l.rest ≡ list_any (heads l.policy) l.items

abbrev pub decreases-loop-rest : goal.decreases-loop-rest
decreases-loop-rest l = length l.rest
