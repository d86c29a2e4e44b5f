use Rattle.std.proofs.Common.{◌≡◌, map, length}
use Rattle.text_words.specs.RplCut.{is_one_of}
use Rattle.text_words.proofs.rpl_blocks.is_one_of.Given as goal

abbrev pub invariant-loop-rest : goal.invariant-loop-rest
invariant-loop-rest l = is_one_of (map (λ key. key.now) l.rest) l.word ≡ is_one_of (map (λ key. key.now) l.keys) l.word

abbrev pub decreases-loop-rest : goal.decreases-loop-rest
decreases-loop-rest l = length l.rest
