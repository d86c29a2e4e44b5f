-- Worked examples that the checker computes.
use Rattle.std.proofs.Common.{◌≡◌, refl, ℕ, Bool, true, false, List, [], ◌∷◌, Some, None}
use Rattle.rpl_effects.specs.Answers.{last_answer}
use Rattle.rpl_effects.specs.Changes.{all_done, before, repeated_before}
use Rattle.rpl_effects.specs.Pieces.{leaves, leaves_in, leaves_at, prepends_of}
use Rattle.rpl_effects.specs.declared.effect.Effect.{Effect}
use Rattle.rpl_effects.specs.declared.effect.Effect.TheVariants.{Accepted}
use Rattle.rpl_effects.specs.declared.effect.Piece.{Piece}
use Rattle.rpl_effects.specs.declared.effect.Piece.TheVariants.{One, OfEffect}
use Rattle.rpl_effects.specs.declared.effect.Times.{Times}

abbrev prepending : List (Piece Times) → Effect ℕ
prepending ps = Accepted (record { next_hop = None; origin = None; local_preference = None; med = None; weight = None; prepends = ps; steps = [] })

-- an effect that puts 65001 before the path, and one that does twice what the first does
abbrev twice : List (Effect ℕ)
twice = prepending (One (record { number = 65001; count = 1 }) ∷ []) ∷ prepending (OfEffect 0 ∷ OfEffect 0 ∷ []) ∷ []

put_twice : all_done before (leaves_at prepends_of twice 1) (7 ∷ []) ≡ 65001 ∷ 65001 ∷ 7 ∷ []
unfolding all_done repeated_before leaves leaves_in
put_twice = refl

-- the last step that decides counts
counts : last_answer (λ (b : Bool). Some b) (true ∷ false ∷ []) ≡ Some false
unfolding last_answer
counts = refl
