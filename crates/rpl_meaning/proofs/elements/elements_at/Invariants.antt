use Rattle.std.proofs.Common.{◌≡◌, ◌++◌, length}
use Rattle.std.specs.Prelude.{map}
use Rattle.rpl_tree.specs.Tree.{forms}
use Rattle.rpl_meaning.specs.Sets.{elements}
use Rattle.rpl_meaning.proofs.elements.elements_at.Given as goal

abbrev pub decreases-loop-rest : goal.decreases-loop-rest
decreases-loop-rest g l = length l.rest

abbrev pub invariant-loop-rest : goal.invariant-loop-rest
invariant-loop-rest g l = map (λ e. e.now) l.found.items ++ elements g.S.SetSort.read (forms l.rest) ≡ elements g.S.SetSort.read (forms l.items)
