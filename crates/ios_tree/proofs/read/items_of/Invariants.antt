use Rattle.std.proofs.Common.{◌≡◌, ◌++◌, [], length, false}
use Rattle.ios_tree.specs.Numbering.{Tells}
use Rattle.ios_tree.specs.Tree.{items_of, numbered_from}
use Rattle.ios_tree.proofs.read.items_of.Given as goal

abbrev pub invariant-loop-rest : goal.invariant-loop-rest
invariant-loop-rest l = record { told : Tells l.greatest l.items; built : l.items ++ numbered_from l.items (items_of l.entry_open l.rest) ≡ numbered_from [] (items_of false l.statements) }

abbrev pub decreases-loop-rest : goal.decreases-loop-rest
decreases-loop-rest l = length l.rest
