use Rattle.std.proofs.Common.{◌≡◌, ◌++◌, ◌∷◌, length, flat_map}
use Rattle.rpl_text.specs.Patterns.{piece_text}
use Rattle.rpl_text.proofs.patterns.push_later_pieces.Given as goal

abbrev pub invariant-loop-rest : goal.invariant-loop-rest
invariant-loop-rest l = l.out.items ++ flat_map (λ p. 95 ∷ piece_text p) l.rest ≡ l.initial.out.items ++ flat_map (λ p. 95 ∷ piece_text p) l.pieces

abbrev pub decreases-loop-rest : goal.decreases-loop-rest
decreases-loop-rest l = length l.rest
