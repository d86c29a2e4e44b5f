-- What pieces come to, by a table of effects: a piece that stands for an effect comes to all that this one has.
use Rattle.std.specs.Prelude.{ℕ, ◌==◌, true, false, List, [], ◌∷◌, ◌++◌, length, reverse}
use Rattle.rpl_effects.specs.declared.effect.Times.{Times}
use Rattle.rpl_effects.specs.declared.effect.Piece.{Piece}
use Rattle.rpl_effects.specs.declared.effect.Piece.TheVariants.{One, OfEffect}
use Rattle.rpl_effects.specs.declared.effect.Effect.{Effect}
use Rattle.rpl_effects.specs.declared.effect.Effect.TheVariants.{GoesOn, Accepted, Rejected}

-- what pieces come to, in order, where this is what the effects at places have
unfoldable pub leaves : {T : Type 0} → (ℕ → List T) → List (Piece T) → List T
leaves at [] = []
leaves at (One x ∷ ps) = x ∷ leaves at ps
leaves at (OfEffect place ∷ ps) = at place ++ leaves at ps

-- what the effect at a place has, of a table with its newest effect first, whose pieces stand for older ones
unfoldable pub leaves_in : {S T : Type 0} → (Effect S → List (Piece T)) → List (Effect S) → ℕ → List T
leaves_in pieces [] place = []
leaves_in pieces (e ∷ older) place = elim (place == length older) [ true ↦ leaves (leaves_in pieces older) (pieces e) | false ↦ leaves_in pieces older place ]

-- the same of a table in the order in which its effects were found
abbrev pub leaves_at : {S T : Type 0} → (Effect S → List (Piece T)) → List (Effect S) → ℕ → List T
leaves_at pieces table place = leaves_in pieces (reverse table) place

-- what an effect puts before the path
abbrev pub prepends_of : {S : Type 0} → Effect S → List (Piece Times)
prepends_of (GoesOn run) = run.changes.prepends
prepends_of (Accepted changes) = changes.prepends
prepends_of Rejected = []

-- what an effect does with the communities
abbrev pub steps_of : {S : Type 0} → Effect S → List (Piece S)
steps_of (GoesOn run) = run.changes.steps
steps_of (Accepted changes) = changes.steps
steps_of Rejected = []
