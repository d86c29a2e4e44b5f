-- Which of the answers that several give counts.
use Rattle.std.specs.Prelude.{◌≡◌, ℕ, ◌<◌, Bool, true, List, [], ◌∷◌, Option, Some, None, length, slice_get}
use Rattle.std.specs.Option.{option_or}
use Rattle.rpl_effects.specs.Pieces.{leaves, leaves_at, steps_of}
use Rattle.rpl_effects.specs.declared.effect.Piece.{Piece}
use Rattle.rpl_effects.specs.declared.effect.Effect.{Effect}

-- the answer of the first that gives one
unfoldable pub first_answer : {S : Type 0} → (S → Option Bool) → List S → Option Bool
first_answer answer [] = None
first_answer answer (x ∷ xs) = option_or (answer x) (first_answer answer xs)

-- the answer of the last that gives one
unfoldable pub last_answer : {S : Type 0} → (S → Option Bool) → List S → Option Bool
last_answer answer [] = None
last_answer answer (x ∷ xs) = option_or (last_answer answer xs) (answer x)

-- the effects of a table that were seen have no answer of their own behind what was found, the last first
abbrev pub Tells : {S : Type 0} → (S → Option Bool) → (ℕ → List S) → List Bool → List S → Type 0
Tells answer at seen found = (k : ℕ) → slice_get seen k ≡ Some true → option_or (first_answer answer found) (last_answer answer (at k)) ≡ first_answer answer found

-- these steps were found behind the others
pub record IsVisited {S : Type 0} (answer : S → Option Bool) (at : ℕ → List S) (steps : List S) (found_before found : List S) (seen : List Bool) : Type 0 where
  pub tells : Tells answer at seen found
  pub answers : first_answer answer found ≡ option_or (first_answer answer found_before) (last_answer answer steps)

-- what effects have is told by the table, as far as it goes
abbrev pub Agrees : {S : Type 0} → (ℕ → List S) → List (Effect S) → Type 0
Agrees at older = (place : ℕ) → place < length older → at place ≡ leaves_at steps_of older place

-- steps are being found, the last first: those found and the rest of the pieces decide as all do
pub record IsVisiting {S : Type 0} (answer : S → Option Bool) (at older : ℕ → List S) (pieces rest : List (Piece S)) (found_before found : List S) (seen : List Bool) : Type 0 where
  pub tells : Tells answer at seen found
  pub answers : option_or (first_answer answer found) (last_answer answer (leaves older rest)) ≡ option_or (first_answer answer found_before) (last_answer answer (leaves older pieces))
