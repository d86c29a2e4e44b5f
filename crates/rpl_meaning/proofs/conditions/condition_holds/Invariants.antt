use Rattle.std.proofs.Common.{◌≡◌, length, []}
use Rattle.rpl_tree.specs.Tree.{forms}
use Rattle.rpl_meaning.specs.Blocks.{word_in}
use Rattle.rpl_meaning.specs.Conditions.{test_holds, terms_hold}
use Rattle.rpl_meaning.proofs.conditions.condition_holds.Given as goal

abbrev pub decreases-loop-rest : goal.decreases-loop-rest
decreases-loop-rest l = length l.rest

abbrev pub invariant-loop-rest : goal.invariant-loop-rest
invariant-loop-rest l = terms_hold (test_holds (forms l.world.items.now) (word_in l.words.entries) l.world.route.now) l.answers l.rest ≡ terms_hold (test_holds (forms l.world.items.now) (word_in l.words.entries) l.world.route.now) [] l.terms
