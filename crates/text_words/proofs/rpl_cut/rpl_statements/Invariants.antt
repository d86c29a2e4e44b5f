use Rattle.std.proofs.Common.{◌≡◌, ◌+◌, length}
use Rattle.text_words.specs.RplWords.{lexemes}
use Rattle.text_words.specs.RplCut.{rpl_cut}
use Rattle.text_words.specs.RplReach.{reach}
use Rattle.text_words.proofs.rpl_cut.rpl_statements.Given as goal

abbrev pub invariant-loop-rest : goal.invariant-loop-rest
invariant-loop-rest l = record { reached : reach l.cut (lexemes l.standing l.place l.rest) ≡ rpl_cut l.text; placed : l.place + length l.rest ≡ length l.text }

abbrev pub decreases-loop-rest : goal.decreases-loop-rest
decreases-loop-rest l = length l.rest
