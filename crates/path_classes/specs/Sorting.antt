-- The classes of states: states in which the patterns answer alike are one class.
use Rattle.std.specs.Prelude.{◌≡◌, ℕ, ◌≤◌, ◌⊎◌, Bool, List, [], ◌∷◌, ◌++◌, Some, length, slice_get}
use Rattle.std.specs.Bool.{beq}
use Rattle.std.specs.Cmp.Lexicographic.{pointwise}
use Rattle.std.specs.List.{IsDistinct}
use Rattle.path_classes.specs.Answers.{answers_of}
use Rattle.path_classes.specs.declared.answers.Sorting.{Sorting}
use Rattle.path_classes.specs.declared.states.States.{States}
use Rattle.path_classes.specs.declared.threads.Thread.{Thread}

-- whether answers are the same
abbrev pub same_answers : List Bool → List Bool → Bool
same_answers a b = pointwise beq a b

-- there is a class with these answers: the classes are as before, or it came last with its path
abbrev pub HasClass : Sorting → Sorting → List Bool → List ℕ → Type 0
HasClass old new answers path =
    ((new.answers.keys ≡ old.answers.keys) × (new.members ≡ old.members)) ⊎ ((new.answers.keys ≡ old.answers.keys ++ answers ∷ []) × (new.members ≡ old.members ++ path ∷ []))

-- it stands at this place
pub record IsClassFound (old new : Sorting) (answers : List Bool) (path : List ℕ) (class : ℕ) : Type 0 where
  pub there : slice_get new.answers.keys class ≡ Some answers
  pub classes : new.classes ≡ old.classes
  pub grown : HasClass old new answers path

-- the next state was put into that class
pub record IsClassPut (old new : Sorting) (answers : List Bool) (path : List ℕ) : Type 0 where
  pub class : ℕ
  pub there : slice_get new.answers.keys class ≡ Some answers
  pub classes : new.classes ≡ old.classes ++ class ∷ []
  pub grown : HasClass old new answers path

-- the state at a place was put into its class
abbrev pub AddsState : ℕ → States → Sorting → Sorting → ℕ → Type 0
AddsState count states old new place =
    (ts : List Thread) (path : List ℕ) → slice_get states.configs.keys place ≡ Some ts → slice_get states.paths place ≡ Some path → IsClassPut old new (answers_of count ts) path

-- the classes of the first ones of these states
abbrev pub AreClassed : ℕ → List (List Bool) → List (List Thread) → List ℕ → Type 0
AreClassed count answers cs [] = Unit {0}
AreClassed count answers [] (x ∷ xs) = ⊥
AreClassed count answers (c ∷ cs) (x ∷ xs) = (slice_get answers x ≡ Some (answers_of count c)) × AreClassed count answers cs xs

-- the path leads to a state in which so many patterns answer this
pub record IsMember (count : ℕ) (states : States) (answers : List Bool) (path : List ℕ) : Type 0 where
  pub place : ℕ
  pub threads : List Thread
  pub state : slice_get states.configs.keys place ≡ Some threads
  pub led : slice_get states.paths place ≡ Some path
  pub same : answers ≡ answers_of count threads

-- each class has its path
abbrev pub AreMembers : ℕ → States → List (List Bool) → List (List ℕ) → Type 0
AreMembers count states [] [] = Unit {0}
AreMembers count states [] (p ∷ ps) = ⊥
AreMembers count states (a ∷ rows) [] = ⊥
AreMembers count states (a ∷ rows) (p ∷ ps) = IsMember count states a p × AreMembers count states rows ps

-- the first states are in their classes
pub record IsSorted (count : ℕ) (states : States) (sorting : Sorting) (place : ℕ) : Type 0 where
  pub classed : AreClassed count sorting.answers.keys states.configs.keys sorting.classes
  pub counted : length sorting.classes ≡ place
  pub members : AreMembers count states sorting.answers.keys sorting.members
  pub distinct : IsDistinct same_answers sorting.answers.keys

-- all states are
pub record AllSorted (count : ℕ) (states : States) (sorting : Sorting) : Type 0 where
  pub place : ℕ
  pub all : length states.configs.keys ≤ place
  pub sorted : IsSorted count states sorting place
