use Rattle.std.proofs.Common.{◌≡◌, ◌++◌, ◌∷◌, length, flat_map}
use Rattle.rpl_text.specs.Words.{phrase_text}
use Rattle.rpl_text.proofs.sets.push_later.Given as goal

abbrev pub invariant-loop-rest : goal.invariant-loop-rest
invariant-loop-rest g l = l.out.items ++ flat_map (λ t. 44 ∷ 32 ∷ phrase_text (g.W.PutsWords.phrase t)) l.rest ≡ l.initial.out.items ++ flat_map (λ t. 44 ∷ 32 ∷ phrase_text (g.W.PutsWords.phrase t)) l.things

abbrev pub decreases-loop-rest : goal.decreases-loop-rest
decreases-loop-rest g l = length l.rest
