-- States: the threads of a path, and where numbers lead.
use Rattle.std.specs.Prelude.{◌≡◌, ℕ, ◌≤◌, ◌⊎◌, Bool, ◌&&◌, ◌==◌, List, [], ◌∷◌, ◌++◌, Some, None, map, length, slice_get}
use Rattle.std.specs.List.{list_any}
use Rattle.path_patterns.specs.Items.{IsPath, Takes}
use Rattle.path_patterns.specs.PathMatches.{whole_path}
use Rattle.path_classes.specs.Lines.{line_view, AreSound}
use Rattle.path_classes.specs.Threads.{says}
use Rattle.path_classes.specs.declared.lines.Line.{Line}
use Rattle.path_classes.specs.declared.threads.Thread.{Thread}
use Rattle.path_classes.specs.declared.states.States.{States}

-- the line is one of the pattern at place j, and takes the path
abbrev pub view_says : ℕ → List ℕ → ℕ × List Takes → Bool
view_says j path v = (v.0 == j) && whole_path v.1 path

-- some line of the pattern at place j takes the path
abbrev pub lines_say : List Line → ℕ → List ℕ → Bool
lines_say lines j path = list_any (λ v. view_says j path v) (map line_view lines)

-- the threads say of a whole path what the lines say
abbrev pub Begins : List Line → List Thread → Type 0
Begins lines ts = (j : ℕ) (path : List ℕ) → IsPath path → says lines j path ts ≡ lines_say lines j path

-- the threads say of what stands behind a number what the others say with it
abbrev pub Follows : List Line → List Thread → ℕ → List Thread → Type 0
Follows lines ts n us = (j : ℕ) (path : List ℕ) → IsPath path → says lines j path us ≡ says lines j (n ∷ path) ts

-- ---- all states that are reached

-- the path leads to these threads
abbrev pub LeadsTo : List Line → List ℕ → List Thread → Type 0
LeadsTo lines path ts = (j : ℕ) (rest : List ℕ) → IsPath rest → says lines j rest ts ≡ lines_say lines j (path ++ rest)

-- to each state its path leads
abbrev pub AreReached : List Line → List (List Thread) → List (List ℕ) → Type 0
AreReached lines [] [] = Unit {0}
AreReached lines [] (p ∷ ps) = ⊥
AreReached lines (c ∷ cs) [] = ⊥
AreReached lines (c ∷ cs) (p ∷ ps) = IsPath p × LeadsTo lines p c × AreReached lines cs ps

-- more states came behind these
abbrev pub Grew : List (List Thread) → List (List Thread) → Type 0
Grew old new = (extra : List (List Thread)) × (new ≡ old ++ extra)

-- a number leads from these threads to the state at a place
pub record IsStep (lines : List Line) (all : List (List Thread)) (ts : List Thread) (n to : ℕ) : Type 0 where
  pub threads : List Thread
  pub there : slice_get all to ≡ Some threads
  pub follows : Follows lines ts n threads

-- the first ones of these numbers lead to these places
abbrev pub AreSteps : List Line → List (List Thread) → List Thread → List ℕ → List ℕ → Type 0
AreSteps lines all ts ns [] = Unit {0}
AreSteps lines all ts [] (x ∷ xs) = ⊥
AreSteps lines all ts (n ∷ ns) (x ∷ xs) = IsStep lines all ts n x × AreSteps lines all ts ns xs

-- each of these numbers leads to a place
pub record IsRow (lines : List Line) (all : List (List Thread)) (numbers : List ℕ) (ts : List Thread) (row : List ℕ) : Type 0 where
  pub steps : AreSteps lines all ts numbers row
  pub full : length numbers ≤ length row

-- the rows of the first ones of these states
abbrev pub AreRows : List Line → List (List Thread) → List ℕ → List (List Thread) → List (List ℕ) → Type 0
AreRows lines all numbers cs [] = Unit {0}
AreRows lines all numbers [] (r ∷ rs) = ⊥
AreRows lines all numbers (c ∷ cs) (r ∷ rs) = IsRow lines all numbers c r × AreRows lines all numbers cs rs

-- the path of a state, and a number behind it
abbrev pub longer : List (List ℕ) → ℕ → ℕ → List ℕ
longer paths i n = elim (slice_get paths i) [ None ↦ n ∷ [] | Some p ↦ p ++ n ∷ [] ]

-- there is a state with these threads: the states are as before, or it came last with its path
abbrev pub HasState : States → States → List Thread → List ℕ → Type 0
HasState old new ts path =
    ((new.configs.keys ≡ old.configs.keys) × (new.paths ≡ old.paths)) ⊎ ((new.configs.keys ≡ old.configs.keys ++ ts ∷ []) × (new.paths ≡ old.paths ++ path ∷ []))

-- it stands at the place
pub record IsStatePut (old new : States) (ts : List Thread) (path : List ℕ) (place : ℕ) : Type 0 where
  pub there : slice_get new.configs.keys place ≡ Some ts
  pub rows : new.next ≡ old.next
  pub grown : HasState old new ts path

-- the state to which a number leads was put in
pub record IsStepAdded (lines : List Line) (old new : States) (ts : List Thread) (n to : ℕ) : Type 0 where
  pub grown : Grew old.configs.keys new.configs.keys
  pub rows : new.next ≡ old.next
  pub reached : AreReached lines new.configs.keys new.paths
  pub step : IsStep lines new.configs.keys ts n to

-- the states to which numbers lead were put in
pub record IsRowAdded (lines : List Line) (numbers : List ℕ) (old new : States) (ts : List Thread) (row : List ℕ) : Type 0 where
  pub grown : Grew old.configs.keys new.configs.keys
  pub rows : new.next ≡ old.next
  pub reached : AreReached lines new.configs.keys new.paths
  pub led : IsRow lines new.configs.keys numbers ts row

-- these are the threads of the state at a place, of states that are all reached
pub record IsState (lines : List Line) (states : States) (place : ℕ) (ts : List Thread) : Type 0 where
  pub there : slice_get states.configs.keys place ≡ Some ts
  pub sound : AreSound lines
  pub reached : AreReached lines states.configs.keys states.paths

-- a number leads from the state at a place to another one, which was put in
abbrev pub AddsStep : List Line → States → States → ℕ → ℕ → ℕ → Type 0
AddsStep lines old new from n to = (ts : List Thread) → IsState lines old from ts → IsStepAdded lines old new ts n to

-- so do numbers
abbrev pub AddsRow : List Line → List ℕ → States → States → ℕ → List ℕ → Type 0
AddsRow lines numbers old new from row = (ts : List Thread) → IsState lines old from ts → IsRowAdded lines numbers old new ts row

-- the states of paths, from the empty one, and the rows of the first ones
pub record IsExplored (lines : List Line) (numbers : List ℕ) (states : States) (place : ℕ) : Type 0 where
  pub reached : AreReached lines states.configs.keys states.paths
  pub rows : AreRows lines states.configs.keys numbers states.configs.keys states.next
  pub count : length states.next ≡ place
  pub first : (ts : List Thread) × (slice_get states.configs.keys 0 ≡ Some ts) × Begins lines ts

-- the states of all paths, and a row of each
pub record AllExplored (lines : List Line) (numbers : List ℕ) (states : States) : Type 0 where
  pub place : ℕ
  pub all : length states.configs.keys ≤ place
  pub explored : IsExplored lines numbers states place
