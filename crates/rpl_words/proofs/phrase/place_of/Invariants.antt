use Rattle.std.proofs.Common.{◌≡◌, ◌+◌, length}
use Rattle.std.specs.Prelude.{option_map}
use Rattle.rpl_words.specs.Tokens.{tokens, place_of}
use Rattle.rpl_words.proofs.phrase.place_of.Given as goal

abbrev pub invariant-loop-rest : goal.invariant-loop-rest
invariant-loop-rest l = (option_map (λ n. l.place + n) (place_of l.key (tokens l.rest)) ≡ place_of l.key (tokens l.words)) × (l.place + length l.rest ≡ length l.words)

abbrev pub decreases-loop-rest : goal.decreases-loop-rest
decreases-loop-rest l = length l.rest
