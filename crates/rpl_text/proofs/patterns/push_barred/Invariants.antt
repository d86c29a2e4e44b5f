use Rattle.std.proofs.Common.{◌≡◌, ◌++◌, ◌∷◌, length, flat_map}
use Rattle.rpl_text.specs.Patterns.{word_text}
use Rattle.rpl_text.proofs.patterns.push_barred.Given as goal

abbrev pub invariant-loop-rest : goal.invariant-loop-rest
invariant-loop-rest l = l.out.items ++ flat_map (λ w. 124 ∷ word_text w) l.rest ≡ l.initial.out.items ++ flat_map (λ w. 124 ∷ word_text w) l.words

abbrev pub decreases-loop-rest : goal.decreases-loop-rest
decreases-loop-rest l = length l.rest
