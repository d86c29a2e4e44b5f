-- Threads without those that another one covers.
use Rattle.std.specs.Prelude.{◌≡◌, ℕ, Bool, true, false, ◌&&◌, ◌==◌, nat_le, List, [], ◌∷◌, Option, Some, None}
use Rattle.path_classes.specs.Threads.{says}
use Rattle.path_classes.specs.declared.lines.Line.{Line}
use Rattle.path_classes.specs.declared.threads.Inside.{Inside as At}
use Rattle.path_classes.specs.declared.threads.Stage.{Stage}
use Rattle.path_classes.specs.declared.threads.Stage.TheVariants.{Always, Ended, Inside}
use Rattle.path_classes.specs.declared.threads.Thread.{Thread}

-- an upper end is not above another one
abbrev pub most_within : Option ℕ → Option ℕ → Bool
most_within None None = true
most_within (Some a) None = true
most_within None (Some b) = false
most_within (Some a) (Some b) = nat_le a b

-- at one place, the first takes each count of numbers that the second does
abbrev pub inside_covers : At → At → Bool
inside_covers a b = a.line == b.line && (a.left == b.left && (nat_le a.least b.least && most_within b.most a.most))

-- all paths that may follow the second may follow the first
abbrev pub stage_covers : Stage → Stage → Bool
stage_covers Always b = true
stage_covers Ended Ended = true
stage_covers Ended Always = false
stage_covers Ended (Inside b) = false
stage_covers (Inside a) (Inside b) = inside_covers a b
stage_covers (Inside a) Always = false
stage_covers (Inside a) Ended = false

-- the same of one pattern
abbrev pub covers : Thread → Thread → Bool
covers a b = a.pattern == b.pattern && stage_covers a.stage b.stage

-- what is left of threads behind the one kept last
unfoldable pub tidied_from : Thread → List Thread → List Thread
tidied_from last [] = []
tidied_from last (t ∷ ts) = elim (covers last t) [ true ↦ tidied_from last ts | false ↦ t ∷ tidied_from t ts ]

-- what is left of threads
abbrev pub tidied : List Thread → List Thread
tidied [] = []
tidied (t ∷ ts) = t ∷ tidied_from t ts

-- whatever follows, they say the same of each pattern
abbrev pub SayTheSame : List Thread → List Thread → Type 0
SayTheSame ts us = (lines : List Line) (j : ℕ) (path : List ℕ) → says lines j path us ≡ says lines j path ts
