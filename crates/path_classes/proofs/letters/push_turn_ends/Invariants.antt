use Rattle.std.proofs.Common.{◌≡◌, ◌++◌, length}
use Rattle.std.specs.List.{flat_map}
use Rattle.path_classes.specs.Letters.{turn_ends}
use Rattle.path_classes.proofs.letters.push_turn_ends.Given as goal

abbrev pub invariant-loop-rest : goal.invariant-loop-rest
invariant-loop-rest l = l.out.items ++ flat_map turn_ends l.rest ≡ l.initial.out.items ++ flat_map turn_ends l.turns

abbrev pub decreases-loop-rest : goal.decreases-loop-rest
decreases-loop-rest l = length l.rest
