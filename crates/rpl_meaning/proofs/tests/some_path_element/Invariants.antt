use Rattle.std.proofs.Common.{◌≡◌, length}
use Rattle.std.specs.Prelude.{map}
use Rattle.std.specs.List.{list_any}
use Rattle.rpl_meaning.specs.Blocks.{word_in}
use Rattle.rpl_meaning.specs.Conditions.{path_element_holds}
use Rattle.rpl_meaning.proofs.tests.some_path_element.Given as goal

abbrev pub decreases-loop-rest : goal.decreases-loop-rest
decreases-loop-rest l = length l.rest

abbrev pub invariant-loop-rest : goal.invariant-loop-rest
invariant-loop-rest l = list_any (path_element_holds (word_in l.words.entries) l.path) (map (λ e. e.now) l.rest) ≡ list_any (path_element_holds (word_in l.words.entries) l.path) (map (λ e. e.now) l.elements)
