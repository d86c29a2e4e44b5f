use Rattle.std.proofs.Common.{◌≡◌, [], length}
use Rattle.rpl_reader.specs.Depth.{has_deep_group}
use Rattle.rpl_reader.proofs.depth.has_deep_group.Given as goal

abbrev pub invariant-loop-rest : goal.invariant-loop-rest
invariant-loop-rest l = has_deep_group l.depths l.rest ≡ has_deep_group [] l.terms

abbrev pub decreases-loop-rest : goal.decreases-loop-rest
decreases-loop-rest l = length l.rest
