-- What patterns answer to the paths of a state.
use Rattle.std.specs.Prelude.{ℕ, Bool, true, false, List, [], ◌∷◌, slice_set, replicate}
use Rattle.path_classes.specs.declared.threads.Stage.{Stage}
use Rattle.path_classes.specs.declared.threads.Stage.TheVariants.{Always, Ended, Inside}
use Rattle.path_classes.specs.declared.threads.Thread.{Thread}

-- the path may end here
abbrev pub is_over : Stage → Bool
is_over Always = true
is_over Ended = true
is_over (Inside s) = false

-- the pattern of a thread whose path may end here is marked
abbrev pub marked_one : List Bool → Thread → List Bool
marked_one row t = elim (is_over t.stage) [ true ↦ slice_set row t.pattern true | false ↦ row ]

-- those of all threads are
unfoldable pub marked : List Bool → List Thread → List Bool
marked row [] = row
marked row (t ∷ ts) = marked (marked_one row t) ts

-- what each of so many patterns answers
abbrev pub answers_of : ℕ → List Thread → List Bool
answers_of count ts = marked (replicate count false) ts
