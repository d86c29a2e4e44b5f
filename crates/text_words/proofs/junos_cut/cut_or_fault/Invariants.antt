use Rattle.std.proofs.Common.{◌≡◌, ◌+◌, length}
use Rattle.text_words.specs.JunosWords.{tokens_at}
use Rattle.text_words.specs.JunosCut.{cut_or_fault}
use Rattle.text_words.specs.JunosWalk.{outcome_behind}
use Rattle.text_words.proofs.junos_cut.cut_or_fault.Given as goal

abbrev pub invariant-loop-rest : goal.invariant-loop-rest
invariant-loop-rest l = record { found : outcome_behind l.groups (tokens_at l.within l.place l.rest) ≡ cut_or_fault l.text; placed : l.place + length l.rest ≡ length l.text }

abbrev pub decreases-loop-rest : goal.decreases-loop-rest
decreases-loop-rest l = length l.rest
