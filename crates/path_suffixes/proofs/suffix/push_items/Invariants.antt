use Rattle.std.proofs.Common.{◌≡◌, ◌++◌, length}
use Rattle.path_suffixes.specs.Behind.{items_behind}
use Rattle.path_suffixes.proofs.suffix.push_items.Given as goal

abbrev pub invariant-loop-rest : goal.invariant-loop-rest
invariant-loop-rest l = l.found ++ items_behind l.number l.rest ≡ l.initial.found ++ items_behind l.number l.items

abbrev pub decreases-loop-rest : goal.decreases-loop-rest
decreases-loop-rest l = length l.rest
