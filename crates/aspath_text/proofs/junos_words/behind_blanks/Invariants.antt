use Rattle.std.proofs.Common.{◌≡◌, length}
use Rattle.aspath_text.specs.JunosRead.{behind_blanks}
use Rattle.aspath_text.proofs.junos_words.behind_blanks.Given as goal

abbrev pub invariant-loop-rest : goal.invariant-loop-rest
invariant-loop-rest l = behind_blanks l.rest ≡ behind_blanks l.text

abbrev pub decreases-loop-rest : goal.decreases-loop-rest
decreases-loop-rest l = length l.rest
