use Rattle.std.proofs.Common.{◌≡◌, ◌++◌, Some, replicate}
use Rattle.path_patterns.specs.JunosItems.{item_of}
use Rattle.path_patterns.proofs.junos_items.add_copies.Given as goal

abbrev pub invariant-loop-turn : goal.invariant-loop-turn
invariant-loop-turn l = l.items ≡ l.initial.items ++ replicate l._turn (item_of l.ranges l.least (Some 255))
