use Rattle.std.proofs.Common.{◌≡◌, ◌+◌, ◌≤◌, length}
use Rattle.rpl_words.specs.Tokens.{tokens}
use Rattle.rpl_forms.specs.Terms.{read_words, nots_of, condition_in}
use Rattle.rpl_forms.proofs.condition_words.condition_in.Given as goal

abbrev pub invariant-loop-rest : goal.invariant-loop-rest
invariant-loop-rest l =
    (read_words l.reading.terms l.reading.standing l.reading.around (tokens l.rest) ≡ condition_in (tokens l.words))
    × (nots_of l.reading.standing + length l.rest ≤ length l.words)

abbrev pub decreases-loop-rest : goal.decreases-loop-rest
decreases-loop-rest l = length l.rest
