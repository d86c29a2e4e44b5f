use Rattle.std.proofs.Common.{◌≡◌, ◌++◌, length}
use Rattle.std.specs.Prelude.{map}
use Rattle.rpl_effects.specs.Kept.{words_of}
use Rattle.rpl_meaning.specs.Blocks.{word_in}
use Rattle.rpl_meaning.specs.Handed.{key_words}
use Rattle.rpl_meaning.specs.Sets.{word_given}
use Rattle.rpl_meaning.proofs.known.key_of.Given as goal

abbrev pub decreases-loop-rest : goal.decreases-loop-rest
decreases-loop-rest l = length l.rest

abbrev pub invariant-loop-rest : goal.invariant-loop-rest
invariant-loop-rest l = words_of l.key ++ map (word_given (word_in l.words.entries)) l.rest ≡ key_words (word_in l.words.entries) l.apply
